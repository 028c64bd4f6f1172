use Rattle.std.proofs.Common.{vec_items}
use Rattle.finders.proofs.Nearest.{Going}
use Rattle.finders.proofs.scan.Scan.innermost.Given as goal

abbrev pub invariant-loop-i : goal.invariant-loop-i
invariant-loop-i g l = Going g.K.FieldKind.nest (vec_items l.self.patterns) (goal.T-post g l.test) l.i l.found
