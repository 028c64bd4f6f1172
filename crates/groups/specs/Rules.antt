-- Rules, over any patterns of which is known which lies within which. The five fields are the places 0 to 4: source address, destination
-- address, source port, destination port, protocol. Each place has patterns of a type of its own, P i.
use Rattle.std.specs.Prelude.{ℕ, Bool}

-- the whole pattern of each place, and which pattern lies within which
pub record Nesting (P : ℕ → Type 0) : Type 0 where
  pub whole : (i : ℕ) → P i
  pub within : (i : ℕ) → P i → P i → Bool

pub record Rule (P : ℕ → Type 0) : Type 0 where
  pub number : ℕ
  pub at : (i : ℕ) → P i
