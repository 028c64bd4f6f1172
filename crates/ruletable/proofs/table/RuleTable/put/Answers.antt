use Rattle.std.proofs.Common.{Some, set, ap, ◌∙◌, arith}
use Rattle.ruletable.specs.Slots.{rows}
use Rattle.ruletable.proofs.Slots.{put_row}
use Rattle.ruletable.proofs.table.RuleTable.put.Goals as goal

pub returns : goal.returns
returns c =
    let s = c.args.self.now.slots in
    let n = c.args.row.number in
    record {
      slots = ap (λ p. set s n (Some p)) c.from.ensures;
      rows = λ h. ap (λ p. rows (set s n (Some p))) c.from.ensures ∙ put_row s c.args.row (omega arith) h;
    }
