-- The nearest of the patterns that pass a test.
use Rattle.std.specs.Prelude.{◌≡◌, ℕ, Bool, true, cond, not, ◌&&◌, ◌||◌, ◌⊎◌, List, Some, None, Option, slice_index_or, position}
use Rattle.fields.specs.Lists.{all}
use Rattle.fields.specs.Nest.{Nest}
use Rattle.levels.specs.Levels.{around}

-- i, where nothing was found yet or its pattern lies strictly within the one that was found, else that one
abbrev pub nearer : {P V : Type 0} → Nest P V → List P → Option ℕ → ℕ → ℕ
nearer N held None i = i
nearer N held (Some b) i = cond (around N.within (slice_index_or held i N.whole) (slice_index_or held b N.whole)) i b

-- the place of the pattern that passes t and lies within all that pass
abbrev pub innermost : {P V : Type 0} → Nest P V → List P → (P → Bool) → Option ℕ
innermost N held t = position (λ p. t p && all (λ q. not (t q) || N.within p q) held) held

-- each answer of a test is what t says
abbrev pub Tells : {P : Type 0} → (P → Bool → Type 0) → (P → Bool) → Type 0
Tells {P} test t = (p : P) (b : Bool) → test p b → b ≡ t p

-- of two patterns that pass t, one lies within the other
abbrev pub Nested : {P V : Type 0} → Nest P V → (P → Bool) → Type 0
Nested {P} N t = (a b : P) → t a ≡ true → t b ≡ true → (N.within a b ≡ true) ⊎ (N.within b a ≡ true)
