-- The way up from a label: itself, its parent, the parent of that, and so on.
use Rattle.std.specs.Prelude.{◌≡◌, ℕ, zero, suc, ◌<◌, ◌≤◌, Bool, true, false, cond, List, [], ◌∷◌, length, Some, None, filter, Option, nat_eq}
use Rattle.std.specs.List.{AllByRecursion}
use Rattle.fields.specs.Lists.{any}
use Rattle.fields.specs.Nest.{Nest}
use Rattle.levels.specs.Levels.{around}
use Rattle.finders.specs.Finding.{parent_label}
use Rattle.finders.specs.Labels.{pattern_at, inside, Distinct}

-- f of what is there
abbrev pub onward : (ℕ → List ℕ) → Option ℕ → List ℕ
onward f None = []
onward f (Some p) = f p

-- the first n labels on the way up from l, where `up` has the parent of each
abbrev pub chain : (ℕ → Option ℕ) → ℕ → ℕ → List ℕ
chain up zero l = []
chain up (suc n) l = l ∷ onward (chain up n) (up l)

-- the first element that passes
abbrev pub first_that : (ℕ → Bool) → List ℕ → Option ℕ
first_that u [] = None
first_that u (x ∷ xs) = cond (u x) (Some x) (first_that u xs)

module _ {P V : Type 0} (N : Nest P V) (held : List P) where
  -- of the labels that pass and lie around l, o lies within all others; none passes where it is none
  abbrev pub Innermost : (ℕ → Bool) → ℕ → Option ℕ → Type 0
  Innermost u l None = (b : ℕ) → b < length held → u b ≡ true → inside N held l b ≡ false
  Innermost u l (Some a) =
      (a < length held) × (u a ≡ true) × (inside N held l a ≡ true)
      × ((b : ℕ) → b < length held → u b ≡ true → inside N held l b ≡ true → inside N held a b ≡ true)

  -- what the way up from l says of all labels
  pub record Way (l : ℕ) (ls : List ℕ) : Type 0 where
    pub low : AllByRecursion (λ b. b < length held) ls
    pub members : (b : ℕ) → b < length held → any (nat_eq b) ls ≡ inside N held l b
    pub level : length ls ≡ suc (length (filter (around N.within (pattern_at N held l)) held))
    pub first : (u : ℕ → Bool) → Innermost u l (first_that u ls)

abbrev pub ChainsTell : {P V : Type 0} → Nest P V → Type 0
ChainsTell {P} N =
    (held : List P) → Distinct N held → (up : ℕ → Option ℕ) → ((l : ℕ) → l < length held → up l ≡ parent_label N held l) →
    (n l : ℕ) → length held ≤ n → l < length held → Way N held l (chain up n l)
