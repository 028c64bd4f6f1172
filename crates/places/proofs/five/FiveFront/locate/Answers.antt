use Rattle.places.specs.Each.{each}
use Rattle.places.proofs.five.FiveFront.locate.Goals as goal

pub returns : goal.returns
unfolding each
returns g c = each _ c.best.ensures c.best-2.ensures c.best-3.ensures c.best-4.ensures (λ _. c.best-5.ensures)
