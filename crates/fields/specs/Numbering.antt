-- The number that a header value is, whatever its type.
use Rattle.std.specs.Prelude.{◌≡◌, ℕ, refl}

pub record Numbering (V : Type 0) : Type 0 where
  pub number : V → ℕ
  -- some value of a number
  pub value : ℕ → V
  pub back : (n : ℕ) → number (value n) ≡ n

-- a number is its own
abbrev pub itself : Numbering ℕ
itself = record { number = λ n. n; value = λ n. n; back = λ n. refl }
