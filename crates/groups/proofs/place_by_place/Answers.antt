use Rattle.groups.proofs.Visits.{place_by_place_lem}
use Rattle.groups.proofs.place_by_place.Goals as goal

pub returns : goal.returns
returns g c = place_by_place_lem
