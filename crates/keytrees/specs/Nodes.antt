-- A tree of nodes, the newest child of a node first. The root stands at place 0.
use Rattle.std.specs.Prelude.{◌≡◌, ℕ, zero, suc, ◌+◌, ◌<◌, ◌≤◌, Bool, ◌&&◌, List, [], ◌∷◌, length, take, Some, None, Option, ◌==◌, slice_index_or}
use Rattle.std.specs.Option.{option_map, option_flatten}
use Rattle.keytables.specs.Chains.{link_of, latest, Chained, Way}
use Rattle.keytables.specs.Keys.{numbers_of}
use Rattle.keytables.specs.declared.key.Key.{Key}
use Rattle.keytrees.specs.declared.tree.Node.{Node}

abbrev pub bare : Option ℕ → ℕ → Option ℕ → Node
bare p x next = record { parent = p; number = x; first = None; next = next; entry = None }

abbrev pub no_node : Node
no_node = bare None 0 None

abbrev pub with_first : Node → ℕ → Node
with_first n c = record { parent = n.parent; number = n.number; first = Some c; next = n.next; entry = n.entry }

abbrev pub with_entry : Node → ℕ → Node
with_entry n e = record { parent = n.parent; number = n.number; first = n.first; next = n.next; entry = Some e }

-- the children of a node hang in a chain, and the root in one of its own
abbrev pub chain_of : List Node → ℕ → ℕ
chain_of nodes j = link_of (slice_index_or nodes j no_node).parent

abbrev pub head_of : List Node → ℕ → ℕ
head_of nodes zero = 1
head_of nodes (suc p) = link_of (slice_index_or nodes p no_node).first

abbrev pub is_child : List Node → ℕ → ℕ → ℕ → Bool
is_child nodes p x j = chain_of nodes j == suc p && (slice_index_or nodes j no_node).number == x

-- the child of a node for a number
unfoldable pub child_of : List Node → ℕ → ℕ → Option ℕ
child_of nodes p x = latest (is_child nodes p x) (length nodes)

-- the node at the end of a way from a node
unfoldable pub end_of : List Node → ℕ → List ℕ → Option ℕ
end_of nodes p [] = Some p
end_of nodes p (x ∷ xs) = option_flatten (option_map (λ c. end_of nodes c xs) (child_of nodes p x))

-- what is stored there
unfoldable pub held : List Node → ℕ → List ℕ → Option ℕ
held nodes p xs = option_flatten (option_map (λ n. (slice_index_or nodes n no_node).entry) (end_of nodes p xs))

-- a parent stands before its children, which hang in a chain from it
pub record Grown (nodes : List Node) : Type 0 where
  pub root : 0 < length nodes
  pub before : (j : ℕ) → chain_of nodes j ≤ j
  pub chained : Chained (chain_of nodes) (head_of nodes) (λ j. link_of (slice_index_or nodes j no_node).next) (length nodes)

-- nothing is lost, and nothing else is stored
pub record Kept (nodes more : List Node) : Type 0 where
  pub ends : (p : ℕ) (xs : List ℕ) (n : ℕ) → end_of nodes p xs ≡ Some n → end_of more p xs ≡ Some n
  pub entries : (p : ℕ) (xs : List ℕ) → held more p xs ≡ held nodes p xs

-- on the way over the children of p: the child for x is still ahead
abbrev pub Among : List Node → ℕ → ℕ → ℕ → Type 0
Among nodes p x link = Way (chain_of nodes) (length nodes) (suc p) (is_child nodes p x) link

-- the first i numbers of a way have been gone, and led to a node
pub record Going (start nodes : List Node) (way : List ℕ) (i node : ℕ) : Type 0 where
  pub end : end_of nodes 0 (take i way) ≡ Some node
  pub within : node < length nodes
  pub kept : Kept start nodes
  pub few : length nodes ≤ length start + i

-- what is stored under a key, at the end of its numbers
abbrev pub stored : List Node → Key → Option ℕ
stored nodes k = held nodes 0 (numbers_of k)
