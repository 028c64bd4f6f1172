use Rattle.places.specs.Each.{each}
use Rattle.places.proofs.five.FiveFront.label.Goals as goal

pub take-requires : goal.take-requires
unfolding each
take-requires g c = record { ready = c.requires.ready.0; space = c.requires.space 0 }

pub take-requires-2 : goal.take-requires-2
unfolding each
take-requires-2 g c = record { ready = c.requires.ready.1; space = c.requires.space 1 }

pub take-requires-3 : goal.take-requires-3
unfolding each
take-requires-3 g c = record { ready = c.requires.ready.2; space = c.requires.space 2 }

pub take-requires-4 : goal.take-requires-4
unfolding each
take-requires-4 g c = record { ready = c.requires.ready.3; space = c.requires.space 3 }

pub take-requires-5 : goal.take-requires-5
unfolding each
take-requires-5 g c = record { ready = c.requires.ready.4; space = c.requires.space 4 }

pub returns : goal.returns
unfolding each
returns g c = record {
  ready = (c.take.ensures.ready, c.take-2.ensures.ready, c.take-3.ensures.ready, c.take-4.ensures.ready, c.take-5.ensures.ready);
  labels = each _ c.take.ensures.label c.take-2.ensures.label c.take-3.ensures.label c.take-4.ensures.label (λ _. c.take-5.ensures.label);
  held = each _ c.take.ensures.held c.take-2.ensures.held c.take-3.ensures.held c.take-4.ensures.held (λ _. c.take-5.ensures.held);
  room = each _ c.take.ensures.room c.take-2.ensures.room c.take-3.ensures.room c.take-4.ensures.room (λ _. c.take-5.ensures.room);
}
