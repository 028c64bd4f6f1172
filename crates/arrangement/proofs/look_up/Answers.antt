use Rattle.std.proofs.Common.{rules}
use Rattle.places.specs.Each.{each}
use Rattle.arrangement.proofs.look_up.Goals as goal

pub returns-then-ask : goal.returns-then-ask
unfolding each
returns-then-ask g c = record {
  source = c.locate-located.ensures 0;
  destination = c.locate-located.ensures 1;
  sport = c.locate-located.ensures 2;
  dport = c.locate-located.ensures 3;
  protocol = c.locate-located.ensures 4;
  entry = search rules;
  tally = search rules;
}

pub returns-else-ask : goal.returns-else-ask
unfolding each
returns-else-ask g c = record {
  source = c.locate-located.ensures 0;
  destination = c.locate-located.ensures 1;
  sport = c.locate-located.ensures 2;
  dport = c.locate-located.ensures 3;
  protocol = c.locate-located.ensures 4;
  entry = search rules;
  tally = search rules;
}
