-- The place that a link names, by the number that it keeps.
use Rattle.std.specs.Prelude.{◌≡◌, ℕ, zero, suc, Some, None, Option, refl}

-- the number is one more than the place, and 0 where there is none
abbrev pub place_of : ℕ → Option ℕ
place_of zero = None
place_of (suc n) = Some n

abbrev pub number_of : Option ℕ → ℕ
number_of None = zero
number_of (Some n) = suc n

pub number_back : (n : ℕ) → number_of (place_of n) ≡ n
number_back zero = refl
number_back (suc n) = refl
