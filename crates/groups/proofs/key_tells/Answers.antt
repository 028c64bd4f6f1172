use Rattle.groups.proofs.Header.{key_tells_lem}
use Rattle.groups.proofs.key_tells.Goals as goal

pub returns : goal.returns
returns g c = key_tells_lem
