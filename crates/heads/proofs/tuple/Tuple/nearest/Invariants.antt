use Rattle.std.proofs.Common.{◌≡◌, length}
use Rattle.std.specs.List.{IsFirstBest}
use Rattle.heads.specs.Counts.{levels_of}
use Rattle.heads.proofs.Nearest.{nearer}
use Rattle.heads.proofs.tuple.Tuple.nearest.Given as goal

abbrev pub invariant-loop-i : goal.invariant-loop-i
invariant-loop-i l = IsFirstBest (nearer levels_of (levels_of l.self)) l.heads l.i l.best × (length l.heads ≡ 0 → l.best ≡ 0)
