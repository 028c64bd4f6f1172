use Rattle.std.proofs.Common.{take}
use Rattle.levels.proofs.Counted.{Counted}
use Rattle.levels.proofs.nesting.level.Given as goal

abbrev pub invariant-loop-i : goal.invariant-loop-i
invariant-loop-i g l = Counted g.K.FieldKind.nest l.p (take l.i l.patterns) l.count
