use Rattle.std.proofs.Common.{take}
use Rattle.levels.proofs.Nearest.{Nearest}
use Rattle.levels.proofs.nesting.nearest.Given as goal

abbrev pub invariant-loop-q : goal.invariant-loop-q
invariant-loop-q g l = Nearest g.K.FieldKind.nest l.p (take l.q-index l.patterns) l.found
