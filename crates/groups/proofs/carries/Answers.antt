use Rattle.groups.proofs.Carry.{carries}
use Rattle.groups.proofs.carries.Goals as goal

pub returns : goal.returns
returns g c = carries
