use Rattle.places.specs.Each.{each}
use Rattle.places.proofs.five.FiveFront.start.Goals as goal

pub returns : goal.returns
unfolding each
returns g c = record {
  ready = (c.start.ensures.ready, c.start-2.ensures.ready, c.start-3.ensures.ready, c.start-4.ensures.ready, c.start-5.ensures.ready);
  held = each _ c.start.ensures.held c.start-2.ensures.held c.start-3.ensures.held c.start-4.ensures.held (λ _. c.start-5.ensures.held);
  room = each _ c.start.ensures.room c.start-2.ensures.room c.start-3.ensures.room c.start-4.ensures.room (λ _. c.start-5.ensures.room);
}
