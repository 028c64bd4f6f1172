use Rattle.std.proofs.Common.{refl}
use Rattle.keytrees.proofs.Stores.{stored_none}
use Rattle.keytrees.proofs.keytree.KeyTree.new.Goals as goal

pub returns : goal.returns
returns c = (λ q. stored_none _ q c.in_ok-tree.ensures, refl, refl)
