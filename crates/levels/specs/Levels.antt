-- Nested levels, over any patterns of which is known which lies within which.
use Rattle.std.specs.Prelude.{ℕ, Bool, not, ◌&&◌, List, ◌∷◌, length, filter}
use Rattle.fields.specs.Lists.{all, once}

module _ {P : Type 0} (within : P → P → Bool) where
  -- two patterns are the same when each lies within the other
  abbrev pub same : P → P → Bool
  same a b = within a b && within b a

  -- around p q: the pattern q lies around p, and is another one
  abbrev pub around : P → P → Bool
  around p q = within p q && not (within q p)

  -- of some patterns those that lie within all of them: one or none, where the patterns nest
  abbrev pub innermost : List P → List P
  innermost qs = filter (λ q. all (within q) qs) qs

  module _ (whole : P) (ps : List P) where
    -- the marked patterns of a field whose rules have the patterns ps: the whole pattern always is one
    abbrev pub marked : List P
    marked = once same (whole ∷ ps)

    -- the nested level: the number of other marked patterns around p
    abbrev pub level : P → ℕ
    level p = length (filter (around p) marked)

    -- the nearest other marked pattern around p: none around the whole pattern
    abbrev pub nearest : P → List P
    nearest p = innermost (filter (around p) marked)
