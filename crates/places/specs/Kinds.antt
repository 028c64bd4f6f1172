-- The kinds of the five fields, whatever they are.
use Rattle.std.specs.Prelude.{ℕ, zero, suc, Bool}
use Rattle.fields.specs.Nest.{Nest}
use Rattle.groups.specs.Rules.{Nesting}

-- a kind of field: its patterns, its header values, and what they mean
pub record Kind : Type 1 where
  pub Pattern : Type 0
  pub Value : Type 0
  pub nest : Nest Pattern Value

-- the kinds of the places 0 to 4; there are no further places, and what is said of one is said of the last
abbrev pub kind_at : Kind → Kind → Kind → Kind → Kind → ℕ → Kind
kind_at a b c d e zero = a
kind_at a b c d e (suc zero) = b
kind_at a b c d e (suc (suc zero)) = c
kind_at a b c d e (suc (suc (suc zero))) = d
kind_at a b c d e (suc (suc (suc (suc i)))) = e

module _ (kind : ℕ → Kind) where
  -- the whole pattern of each place, and which pattern lies within which
  abbrev pub nesting : Nesting (λ i. (kind i).Pattern)
  nesting = record { whole = λ i. (kind i).nest.whole; within = λ i. (kind i).nest.within }

  -- which pattern matches which header value at each place
  abbrev pub matching : (i : ℕ) → (kind i).Pattern → (kind i).Value → Bool
  matching i = (kind i).nest.matches
