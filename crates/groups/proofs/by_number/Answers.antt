use Rattle.groups.proofs.ByNumber.{by_number}
use Rattle.groups.proofs.by_number.Goals as goal

pub returns : goal.returns
returns g c = by_number
