use Rattle.std.proofs.Common.{◌≤◌, length}
use Rattle.cases.proofs.run.Given as goal

abbrev pub invariant-loop-case : goal.invariant-loop-case
invariant-loop-case g l = length l.rest ≤ length l.bytes

abbrev pub decreases-loop-case : goal.decreases-loop-case
decreases-loop-case g l = length l.rest
