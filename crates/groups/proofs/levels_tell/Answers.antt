use Rattle.groups.proofs.Levels.{levels_tell_lem}
use Rattle.groups.proofs.levels_tell.Goals as goal

pub returns : goal.returns
returns g c = levels_tell_lem
