use Rattle.groups.proofs.Subsets.{enough_subsets_lem}
use Rattle.groups.proofs.enough_subsets.Goals as goal

pub returns : goal.returns
returns g c = enough_subsets_lem
