-- Lists by a test of their elements.
use Rattle.std.specs.Prelude.{Bool, not, List, [], ◌∷◌, filter}
use Rattle.std.specs.List.{list_all, list_any}

module _ {X : Type 0} where
  -- some element passes
  abbrev pub any : (X → Bool) → List X → Bool
  any = list_any

  -- every element passes
  abbrev pub all : (X → Bool) → List X → Bool
  all = list_all

  -- each element once, where it stands first; `eq` tells which are the same
  abbrev pub once : (X → X → Bool) → List X → List X
  once eq [] = []
  once eq (x ∷ xs) = x ∷ filter (λ y. not (eq x y)) (once eq xs)
