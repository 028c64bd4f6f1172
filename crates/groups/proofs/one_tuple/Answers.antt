use Rattle.groups.proofs.OneTuple.{one_tuple_lem}
use Rattle.groups.proofs.one_tuple.Goals as goal

pub returns : goal.returns
returns g c = one_tuple_lem
