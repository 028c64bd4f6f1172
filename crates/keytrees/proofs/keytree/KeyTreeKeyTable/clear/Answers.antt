use Rattle.keytrees.proofs.Stores.{stored_none}
use Rattle.keytrees.proofs.keytree.KeyTreeKeyTable.clear.Goals as goal

pub returns-clause-map : goal.returns-clause-map
returns-clause-map c = λ q. stored_none _ q c.clear.ensures
