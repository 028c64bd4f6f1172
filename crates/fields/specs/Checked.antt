-- What a row is refused with, where each of its five parts was checked.
use Rattle.std.specs.Prelude.{ℕ, Bool, false, [], ◌∷◌, Some, None, Option, ◌==◌}
use Rattle.fields.specs.Lists.{any}
use Rattle.fields.specs.Refusals.{first}

-- the number o is this one
abbrev pub is : Option ℕ → ℕ → Bool
is None n = false
is (Some m) n = m == n

-- some of the five places is refused with this number, where o has what each is refused with
abbrev pub some_place : (ℕ → Option ℕ) → ℕ → Bool
some_place o n = any (λ i. is (o i) n) (0 ∷ 1 ∷ 2 ∷ 3 ∷ 4 ∷ [])

-- a length that a kind lacks, at any place, is told before a bit beyond a length, at any
abbrev pub first_refusal : (ℕ → Option ℕ) → Option ℕ
first_refusal o = first (record { fails = some_place o 2; refuses = 2 } ∷ record { fails = some_place o 3; refuses = 3 } ∷ [])
