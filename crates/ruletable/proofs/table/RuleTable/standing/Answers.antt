use Rattle.std.proofs.Common.{◌<◌, true, false, [], ◌∷◌, ◌++◌, map, length, sym, ap, ◌∙◌, subst, append-nil, arith}
use Rattle.std.specs.List.{AllByRecursion}
use Rattle.rulesets.specs.Sets.{members}
use Rattle.rulesets.proofs.Members.{members_with}
use Rattle.ruletable.proofs.Slots.{numbers_below, numbers_more, rows_all}
use Rattle.ruletable.proofs.table.RuleTable.standing.Goals as goal
use Rattle.ruletable.proofs.table.RuleTable.standing.Goals.{then-is_some, else-is_some}

pub loop-n-preserved : goal.loop-n-preserved
loop-n-preserved c =
    let s = c.args.self.now.slots in
    let n = c.loop-n.n in
    let was = c.loop-n.numbers in
    let inv = c.loop-n.invariant in
    let lt : n < length s = omega arith in
    elim c.if-is_some.branch [
      | then-is_some w ↦
          (ap members w.numbers-is
          ∙ members_with was _ n (omega arith) w.with-numbers.ensures (subst (AllByRecursion (λ m. m < n)) (sym inv) (numbers_below s n))
          ∙ ap (λ ns. ns ++ n ∷ []) inv
          ∙ sym (numbers_more s n true lt (sym w.if-is_some.true ∙ c.is_some.ensures)))
      | else-is_some w ↦
          (ap members w.numbers-is ∙ inv ∙ sym (numbers_more s n false lt (sym w.if-is_some.false ∙ c.is_some.ensures) ∙ append-nil _))
    ]

pub returns : goal.returns
returns c = c.loop-n.invariant ∙ ap (map (λ q. q.number)) (rows_all c.args.self.now.slots c.loop-n.n (omega arith))
