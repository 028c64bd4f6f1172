use Rattle.finders.proofs.Chains.{chains_tell_lem}
use Rattle.finders.proofs.laws.chains_tell.Goals as goal

pub returns : goal.returns
returns g c = chains_tell_lem g.K.FieldKind.nest
