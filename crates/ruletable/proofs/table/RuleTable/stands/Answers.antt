use Rattle.std.proofs.Common.{is_some, None, sym, ap, ◌∙◌, arith}
use Rattle.std.proofs.lemmas.Bool.{le-ltb}
use Rattle.std.proofs.lemmas.List.{get_or_past}
use Rattle.ruletable.proofs.Slots.{stands_row}
use Rattle.ruletable.proofs.table.RuleTable.stands.Goals as goal

pub returns-else-number-lt256 : goal.returns-else-number-lt256
returns-else-number-lt256 c =
    let s = c.args.self.now.slots in
    le-ltb c.args.number 256 (omega arith) ∙ sym (stands_row s c.args.number ∙ ap is_some (get_or_past s c.args.number None (omega arith)))

pub returns-then-number-lt256 : goal.returns-then-number-lt256
returns-then-number-lt256 c = c.is_some.ensures ∙ sym (stands_row c.args.self.now.slots c.args.number)
