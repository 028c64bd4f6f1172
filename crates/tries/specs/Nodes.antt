-- The nodes of a trie: a tree by bits, with labels.
use Rattle.std.specs.Prelude.{◌≡◌, ℕ, ◌<◌, Bool, true, false, cond, List, [], ◌∷◌, ◌++◌, length, get_or, Some, None, Option, option_and_then, slice_index_or, slice_set}
use Rattle.std.specs.Option.{option_or}
use Rattle.fields.specs.declared.numbers.Label.{Label}
use Rattle.tries.specs.declared.node.Node.{Node}

-- a node with no label and no nodes further on
abbrev pub no_node : Node
no_node = record { zero = None; one = None; label = None }

-- the place one bit further on
unfoldable pub kid : List Node → ℕ → Bool → Option ℕ
kid nodes i b = cond b (get_or nodes i no_node).one (get_or nodes i no_node).zero

-- the label of a node
unfoldable pub tag : List Node → ℕ → Option Label
tag nodes i = (get_or nodes i no_node).label

-- a node with another place one bit further on
abbrev pub turned : Node → Bool → ℕ → Node
turned n true m = record n { one = Some m }
turned n false m = record n { zero = Some m }

-- a node with another label
abbrev pub labelled : Node → Label → Node
labelled n l = record n { label = Some l }

-- the nodes with a new one, one bit b further on than the one at n
abbrev pub grown : List Node → ℕ → Bool → List Node
grown nodes n b = slice_set (nodes ++ no_node ∷ []) n (turned (slice_index_or nodes n no_node) b (length nodes))

-- the nodes with a label for the one at n
abbrev pub marked : List Node → ℕ → Label → List Node
marked nodes n l = slice_set nodes n (labelled (slice_index_or nodes n no_node) l)

module _ (nodes : List Node) where
  -- the label where the bits lead from the node at i
  abbrev pub look : ℕ → List Bool → Option Label
  look i [] = tag nodes i
  look i (b ∷ bs) = option_and_then (λ k. look k bs) (kid nodes i b)

  -- the last label on the way along the bits
  abbrev pub deepest : ℕ → List Bool → Option Label
  deepest i [] = tag nodes i
  deepest i (b ∷ bs) = option_or (option_and_then (λ k. deepest k bs) (kid nodes i b)) (tag nodes i)

  -- the bits lead from the node at i to the one at e
  abbrev pub Leads : ℕ → List Bool → ℕ → Type 0
  Leads i [] e = i ≡ e
  Leads i (b ∷ bs) e = (k : ℕ) × (kid nodes i b ≡ Some k) × Leads k bs e

  -- each node has one way from the root
  pub record Tree : Type 0 where
    pub rooted : 0 < length nodes
    pub low : (i : ℕ) (b : Bool) (k : ℕ) → kid nodes i b ≡ Some k → k < length nodes
    pub some_way : (i : ℕ) → i < length nodes → ∥ ((bs : List Bool) × Leads 0 bs i) ∥₁
    pub one_way : (bs cs : List Bool) (i : ℕ) → Leads 0 bs i → Leads 0 cs i → bs ≡ cs
