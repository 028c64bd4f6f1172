-- Labels in the place of patterns: what the answers of a finder say of the labels of all that it holds.
use Rattle.std.specs.Prelude.{◌≡◌, ℕ, ◌<◌, Bool, true, false, ◌||◌, List, length, Some, None, Option, ◌==◌, slice_index_or}
use Rattle.fields.specs.Nest.{Nest}
use Rattle.finders.specs.Finding.{best_label, parent_label}

module _ {P V : Type 0} (N : Nest P V) (held : List P) where
  -- the pattern of a label
  abbrev pub pattern_at : ℕ → P
  pattern_at l = slice_index_or held l N.whole

  -- the pattern of the label a lies within that of b
  abbrev pub inside : ℕ → ℕ → Bool
  inside a b = N.within (pattern_at a) (pattern_at b)

  -- no pattern is held twice
  abbrev pub Distinct : Type 0
  Distinct = (a b : ℕ) → a < length held → b < length held → inside a b ≡ true → inside b a ≡ true → a ≡ b

  -- what lies around l is l itself and what lies around its parent
  abbrev pub Above : ℕ → Option ℕ → Type 0
  Above l None = (b : ℕ) → b < length held → inside l b ≡ (b == l)
  Above l (Some p) = (p < length held) × (inside p l ≡ false) × ((b : ℕ) → b < length held → inside l b ≡ (b == l || inside p b))

  -- what matches is what lies around the best
  abbrev pub Meets : V → Option ℕ → Type 0
  Meets v None = (a : ℕ) → a < length held → N.matches (pattern_at a) v ≡ false
  Meets v (Some b) = (b < length held) × ((a : ℕ) → a < length held → N.matches (pattern_at a) v ≡ inside b a)

abbrev pub ParentsTell : {P V : Type 0} → Nest P V → Type 0
ParentsTell {P} N = (held : List P) → Distinct N held → (l : ℕ) → l < length held → Above N held l (parent_label N held l)

abbrev pub BestTells : {P V : Type 0} → Nest P V → Type 0
BestTells {P} {V} N = (held : List P) (v : V) → Meets N held v (best_label N held v)
