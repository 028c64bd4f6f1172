-- Which bits of a number are set, and how many.
use Rattle.std.proofs.Common.{◌≡◌, ℕ, zero, suc, ◌+◌, ◌-◌, ◌/◌, ◌%◌, ◌^◌, ◌<◌, sym, refl, ap, ◌∙◌, subst, ⊎_elim, mod-eq_of_lt, add_comm, one-mul, one-add, arith}
use native.Mathlib.Nat.{mod-one, div-eq_of_lt}
use lib.Bits.{bit_or, or_zero_r, shifted_even}
use lib.Count.{ones, ones_in, ones_cat}
use Rattle.std.proofs.lemmas.Nat.{mod-pow-add, mod_below, pow_pos, pow-add, pow_below, shl-shr, or_shr, or_mod}
use Rattle.std.proofs.lemmas.Bool.{cases_order}
use Rattle.levels.specs.Maps.{bit}
use Rattle.levels.proofs.Counts.{tally}

ones_bit : (b : ℕ) → b < 2 → ones b ≡ b
unfolding ones ones_in
ones_bit zero h = refl
ones_bit (suc zero) h = refl
ones_bit (suc (suc b)) h = absurd (omega arith)

ones_low : (k m : ℕ) → ones (m % 2 ^ k) ≡ tally (bit m) k
unfolding tally ones ones_in
ones_low zero m = ap ones (mod-one m)
ones_low (suc k) m =
    ap (λ (x : ℕ). ones (m % 2 ^ x)) (sym (one-add k)) ∙ ap ones (mod-pow-add m 1 k)
    ∙ ones_cat k (bit m k) (m % 2 ^ k) (mod_below m (2 ^ k) (pow_pos k))
    ∙ ap (λ (x : ℕ). x + ones (m % 2 ^ k)) (ones_bit (bit m k) (mod_below (m / 2 ^ k) 2 (omega arith)))
    ∙ ap (λ (x : ℕ). bit m k + x) (ones_low k m)
    ∙ add_comm (bit m k) (tally (bit m) k)

pub ones_tally : (k m : ℕ) → m < 2 ^ k → ones m ≡ tally (bit m) k
ones_tally k m h = ap ones (sym (mod-eq_of_lt h)) ∙ ones_low k m

or_one : (b : ℕ) → b < 2 → bit_or b 1 ≡ 1
or_one zero h = refl
or_one (suc zero) h = refl
or_one (suc (suc b)) h = absurd (omega arith)

bit-bit_or : (a b k : ℕ) → bit (bit_or a b) k ≡ bit_or (bit a k) (bit b k)
bit-bit_or a b k = ap (λ (x : ℕ). x % 2) (or_shr a b k) ∙ or_mod (a / 2 ^ k) (b / 2 ^ k) 1

bit_pow : (n : ℕ) → bit (2 ^ n) n ≡ 1
bit_pow n = ap (λ (x : ℕ). x / 2 ^ n % 2) (sym (one-mul (2 ^ n))) ∙ ap (λ (x : ℕ). x % 2) (shl-shr 1 n)

bit_pow_above : (d k : ℕ) → bit (2 ^ (suc d + k)) k ≡ 0
bit_pow_above d k =
    ap (λ (x : ℕ). x / 2 ^ k % 2) (pow-add 2 (suc d) k) ∙ ap (λ (x : ℕ). x % 2) (shl-shr (2 ^ suc d) k ∙ sym (one-mul (2 ^ suc d))) ∙ shifted_even 1 d

bit_pow_other : (n k : ℕ) → (k ≡ n → ⊥) → bit (2 ^ n) k ≡ 0
bit_pow_other n k ne =
    ⊎_elim (λ e. absurd (ne e))
    (⊎_elim (λ h. let e : suc (n - suc k) + k ≡ n = omega arith in subst (λ (m : ℕ). bit (2 ^ m) k ≡ 0) e (bit_pow_above (n - suc k) k)) (λ h. ap (λ (x : ℕ). x % 2) (div-eq_of_lt (pow_below n k h))))
    (cases_order k n)

-- the bit n is set, and every other bit stays
pub set_same : (a n : ℕ) → bit (bit_or a (2 ^ n)) n ≡ 1
set_same a n = bit-bit_or a (2 ^ n) n ∙ ap (bit_or (bit a n)) (bit_pow n) ∙ or_one (bit a n) (mod_below (a / 2 ^ n) 2 (omega arith))

pub set_other : (a n k : ℕ) → (k ≡ n → ⊥) → bit (bit_or a (2 ^ n)) k ≡ bit a k
set_other a n k ne = bit-bit_or a (2 ^ n) k ∙ ap (bit_or (bit a k)) (bit_pow_other n k ne) ∙ or_zero_r (bit a k)
