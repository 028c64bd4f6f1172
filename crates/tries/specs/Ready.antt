-- What a trie holds.
use Rattle.std.specs.Prelude.{◌≡◌, ℕ, ◌+◌, ◌*◌, ◌<◌, ◌≤◌, Bool, List, length, Some, slice_index_or}
use Rattle.finders.specs.Finding.{label_place}
use Rattle.tries.specs.Nodes.{look}
use Rattle.tries.specs.Spelling.{Spelling}
use Rattle.tries.specs.declared.node.Node.{Node}

-- the labels of the nodes are the places of the patterns, by their paths; what is held fits
pub record Ready {P V : Type 0} (s : Spelling P V) (nodes : List Node) (held : List P) : Type 0 where
  -- a label stands for the pattern of its path
  pub named : (bs : List Bool) (k : ℕ) → label_place (look nodes 0 bs) ≡ Some k → (k < length held) × (s.path (slice_index_or held k s.nest.whole) ≡ bs)
  -- the path of each pattern has its label
  pub there : (k : ℕ) → k < length held → label_place (look nodes 0 (s.path (slice_index_or held k s.nest.whole))) ≡ Some k
  pub few : length held ≤ 257
  pub fits : length nodes ≤ 1 + 32 * length held
