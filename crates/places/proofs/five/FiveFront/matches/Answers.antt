use Rattle.std.proofs.Common.{rules}
use Rattle.places.specs.Each.{each}
use Rattle.places.proofs.five.FiveFront.matches.Goals as goal

pub returns-then-matches-4 : goal.returns-then-matches-4
unfolding each
returns-then-matches-4 g c = search rules

pub returns-else-matches-4 : goal.returns-else-matches-4
unfolding each
returns-else-matches-4 g c = search rules
