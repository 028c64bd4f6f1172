-- The place of what is picked first.
use Rattle.std.specs.Prelude.{◌≡◌, ℕ, ◌<◌, List, [], ◌∷◌, length, slice_index_or}
use Rattle.std.specs.List.{remove}
use Rattle.groups.specs.Lists.{pick}

module _ {X : Type 0} where
  -- what is picked of a list stands at place i, and the list without that place is the rest
  abbrev pub Picked : (X → ℕ) → List X → ℕ → Type 0
  Picked c [] i = ⊥
  Picked c (x ∷ xs) i = (i < length (x ∷ xs)) × (pick c x xs ≡ (slice_index_or (x ∷ xs) i x, remove (x ∷ xs) i))
