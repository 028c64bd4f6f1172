-- What the patterns of one field kind mean, and the laws that every kind keeps.
use Rattle.std.specs.Prelude.{◌≡◌, ℕ, Bool, true, ◌⊎◌, Ok, Err, Result}
use Rattle.fields.specs.declared.refusal.Refusal.{Refusal}
use Rattle.fields.specs.declared.refusal.Refusal.TheVariants.{Length, BitBeyond}

-- P are the patterns of the kind, V its header values
pub record Nest (P V : Type 0) : Type 0 where
  -- within a b: the pattern a lies within the pattern b
  pub within : P → P → Bool
  -- matches p v: the pattern p matches the header value v
  pub matches : P → V → Bool
  -- the pattern of length 0
  pub whole : P
  -- the width of the field in bits
  pub width : ℕ
  -- make l n: the pattern of the length l and the number n, or why there is none
  pub make : ℕ → ℕ → Result P Refusal
  -- the length and the number that a pattern tells
  pub length : P → ℕ
  pub number : P → ℕ
  -- the laws
  pub reflexive : (a : P) → within a a ≡ true
  pub transitive : (a b c : P) → within a b ≡ true → within b c ≡ true → within a c ≡ true
  pub antisymmetric : (a b : P) → within a b ≡ true → within b a ≡ true → a ≡ b
  pub outermost : (a : P) → within a whole ≡ true
  pub everything : (v : V) → matches whole v ≡ true
  pub wider : (a b : P) (v : V) → within a b ≡ true → matches a v ≡ true → matches b v ≡ true
  pub nested : (a b : P) (v : V) → matches a v ≡ true → matches b v ≡ true → (within a b ≡ true) ⊎ (within b a ≡ true)
  pub inhabited : (a : P) → (v : V) × (matches a v ≡ true)
  -- a pattern is the one made from what it tells, and tells what it is made from; nothing else is made
  pub made : (a : P) → make (length a) (number a) ≡ Ok a
  pub told : (l n : ℕ) (a : P) → make l n ≡ Ok a → (length a ≡ l) × (number a ≡ n)
  pub refused : (l n : ℕ) (e : Refusal) → make l n ≡ Err e → (e ≡ Length) ⊎ (e ≡ BitBeyond)
