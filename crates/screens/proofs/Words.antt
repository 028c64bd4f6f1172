-- How a bit of words is set.
use Rattle.std.proofs.Common.{◌≡◌, ℕ, ◌/◌, ◌%◌, ◌^◌, ◌<◌, ◌||◌, eqb, List, length, get_or, ⊎_elim, arith}
use lib.Bits.{bit_or}
use Rattle.std.proofs.lemmas.Nat.Bits.{bit_at_or, bit_at-pow_same, bit_at-pow_other, bit_at-lt}
use Rattle.std.proofs.lemmas.Bool.{cases_eq}
use Rattle.std.proofs.lemmas.Bool.Decides.{nat_tests}
use Rattle.std.proofs.lemmas.Grind.{common_steps}
use Rattle.screens.specs.Filters.{bit_of, bit_at, marked}

-- the bit n is set, and every other bit stays
bit_or_pow : (w n k : ℕ) → bit_of (bit_or w (2 ^ n)) k ≡ (bit_of w k || eqb k n)
unfolding bit_of
bit_or_pow w n k = ⊎_elim
    (λ (e : k ≡ n). grind (arith, nat_tests, bit_at_or w (2 ^ n) k, bit_at-pow_same n, bit_at-lt w k))
    (λ (ne : k ≡ n → ⊥). grind (arith, nat_tests, bit_at_or w (2 ^ n) k, bit_at-pow_other n k ne, bit_at-lt w k))
    (cases_eq k n)

-- the bit p is set, and every other bit stays
pub bit_marked : (words : List ℕ) (p j : ℕ) → p / 64 < length words → bit_at (marked words p) j ≡ (bit_at words j || eqb j p)
unfolding bit_at
bit_marked words p j h = ⊎_elim
    (λ (e : j / 64 ≡ p / 64). grind (arith, common_steps, nat_tests, bit_or_pow (get_or words (p / 64) 0) (p % 64) (j % 64)))
    (λ (ne : j / 64 ≡ p / 64 → ⊥). grind (arith, common_steps, nat_tests))
    (cases_eq (j / 64) (p / 64))
