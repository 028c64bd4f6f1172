-- The children of a node.
use Rattle.std.proofs.Common.{◌≡◌, ℕ, suc, ◌<◌, true, List, length, get_or, Some, arith}
use Rattle.std.proofs.lemmas.Bool.Decides.{nat_tests}
use Rattle.keytables.proofs.Latest.{latest_holds}
use Rattle.keytrees.specs.Nodes.{no_node, chain_of, is_child, child_of}
use Rattle.keytrees.specs.declared.tree.Node.{Node}

-- only a child hangs in the chain
pub child_own : (nodes : List Node) (p x j : ℕ) → is_child nodes p x j ≡ true → chain_of nodes j ≡ suc p
child_own nodes p x j h = grind (arith, nat_tests)

pub record Child (nodes : List Node) (p x c : ℕ) : Type 0 where
  pub within : c < length nodes
  pub parent : chain_of nodes c ≡ suc p
  pub number : (get_or nodes c no_node).number ≡ x

pub child_holds : (nodes : List Node) (p x c : ℕ) → child_of nodes p x ≡ Some c → Child nodes p x c
unfolding child_of
child_holds nodes p x c e =
    let r = latest_holds (is_child nodes p x) (length nodes) c e in
    record { within = r.0; parent = child_own nodes p x c r.1; number = grind (arith, nat_tests) }
