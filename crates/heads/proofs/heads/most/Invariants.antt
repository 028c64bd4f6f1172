use Rattle.std.specs.List.{IsFirstBest}
use Rattle.heads.proofs.Picks.{above}
use Rattle.heads.proofs.heads.most.Given as goal

abbrev pub invariant-loop-i : goal.invariant-loop-i
invariant-loop-i l = IsFirstBest (above (λ c. c.rules)) l.counted l.i l.best
