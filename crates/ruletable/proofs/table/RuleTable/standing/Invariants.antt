use Rattle.std.proofs.Common.{◌≡◌, map, take}
use Rattle.rulesets.specs.Sets.{members}
use Rattle.ruletable.specs.Slots.{rows}
use Rattle.ruletable.proofs.table.RuleTable.standing.Given as goal

-- the numbers of the slots so far
abbrev pub invariant-loop-n : goal.invariant-loop-n
invariant-loop-n l = members l.numbers ≡ map (λ q. q.number) (rows (take l.n l.self.slots))
