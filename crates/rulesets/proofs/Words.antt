-- What a set has, from the bits of its words.
use Rattle.std.proofs.Common.{◌≡◌, ℕ, zero, suc, ◌+◌, ◌-◌, ◌*◌, ◌/◌, ◌%◌, ◌^◌, ◌<◌, Bool, true, false, ◌&&◌, ◌||◌, eqb, List, [], ◌∷◌, length, get_or, set, sym, refl, ap, ◌∙◌, subst, ap₂, ⊎_elim, one-mul, arith}
use mathlib.Core.Bool.{or_comm}
use native.Mathlib.Nat.{div-eq_of_lt}
use lib.Bits.{bit_and, bit_or, shifted_even}
use Rattle.std.proofs.lemmas.Nat.{and_mod, and_shr, mod_below, or_mod, or_shr, pow-add, pow_below, shl-shr}
use Rattle.std.proofs.lemmas.List.{get_or_past, get_or-set_other, get_or-set_same}
use Rattle.std.proofs.lemmas.Bool.{cases_eq, cases_order, eq-eqb, ne_eqb}
use Rattle.rulesets.specs.Sets.{has}
use Rattle.rulesets.specs.declared.ruleset.RuleSet.{RuleSet}

-- bit k of w is set
abbrev pub bit : ℕ → ℕ → Bool
bit w k = eqb (w / 2 ^ k % 2) 1

-- an operator that goes bit by bit, and what it makes of two bits
pub record Bitwise (op : ℕ → ℕ → ℕ) (of : Bool → Bool → Bool) : Type 0 where
  shr : (a b k : ℕ) → op a b / 2 ^ k ≡ op (a / 2 ^ k) (b / 2 ^ k)
  low : (a b k : ℕ) → op a b % 2 ^ k ≡ op (a % 2 ^ k) (b % 2 ^ k)
  none : op 0 0 ≡ 0
  none_is : false ≡ of false false
  right_is : eqb (op 0 1) 1 ≡ of false true
  left_is : eqb (op 1 0) 1 ≡ of true false
  both_is : eqb (op 1 1) 1 ≡ of true true

pub ands : Bitwise bit_and ◌&&◌
ands = record { shr = and_shr; low = and_mod; none = refl; none_is = refl; right_is = refl; left_is = refl; both_is = refl }

pub ors : Bitwise bit_or ◌||◌
ors = record { shr = or_shr; low = or_mod; none = refl; none_is = refl; right_is = refl; left_is = refl; both_is = refl }

-- four words and four others, one by one
abbrev pub pairwise : (ℕ → ℕ → ℕ) → List ℕ → List ℕ → List ℕ
pairwise op vs ws = op (get_or vs 0 0) (get_or ws 0 0) ∷ op (get_or vs 1 0) (get_or ws 1 0) ∷ op (get_or vs 2 0) (get_or ws 2 0) ∷ op (get_or vs 3 0) (get_or ws 3 0) ∷ []

module _ {op : ℕ → ℕ → ℕ} {of : Bool → Bool → Bool} (by : Bitwise op of) where
  digits_op : (x y : ℕ) → x < 2 → y < 2 → eqb (op x y) 1 ≡ of (eqb x 1) (eqb y 1)
  digits_op zero zero h k = ap (λ (x : ℕ). eqb x 1) by.none ∙ by.none_is
  digits_op zero (suc zero) h k = by.right_is
  digits_op (suc zero) zero h k = by.left_is
  digits_op (suc zero) (suc zero) h k = by.both_is
  digits_op zero (suc (suc y)) h k = absurd (omega arith)
  digits_op (suc zero) (suc (suc y)) h k = absurd (omega arith)
  digits_op (suc (suc x)) y h k = absurd (omega arith)

  bit_op : (a b k : ℕ) → bit (op a b) k ≡ of (bit a k) (bit b k)
  bit_op a b k =
      ap (λ (x : ℕ). eqb x 1) (ap (λ (x : ℕ). x % 2) (by.shr a b k) ∙ by.low (a / 2 ^ k) (b / 2 ^ k) 1)
      ∙ digits_op (a / 2 ^ k % 2) (b / 2 ^ k % 2) (mod_below (a / 2 ^ k) 2 (omega arith)) (mod_below (b / 2 ^ k) 2 (omega arith))

  pairwise_at : (vs ws : List ℕ) → length vs ≡ 4 → length ws ≡ 4 → (i : ℕ) → get_or (pairwise op vs ws) i 0 ≡ op (get_or vs i 0) (get_or ws i 0)
  pairwise_at vs ws v w zero = refl
  pairwise_at vs ws v w (suc zero) = refl
  pairwise_at vs ws v w (suc (suc zero)) = refl
  pairwise_at vs ws v w (suc (suc (suc zero))) = refl
  pairwise_at vs ws v w (suc (suc (suc (suc i)))) =
      let n = suc (suc (suc (suc i))) in
      sym (ap₂ op (get_or_past vs n 0 (omega arith)) (get_or_past ws n 0 (omega arith)) ∙ by.none)

  pub has_op : (a b c : RuleSet) → c.words ≡ pairwise op a.words b.words → (m : ℕ) → has c m ≡ of (has a m) (has b m)
  unfolding has
  has_op a b c e m =
      ap (λ (w : ℕ). bit w (m % 64)) (ap (λ ws. get_or ws (m / 64) 0) e ∙ pairwise_at a.words b.words a.sized b.sized (m / 64))
      ∙ bit_op (get_or a.words (m / 64) 0) (get_or b.words (m / 64) 0) (m % 64)

-- a number of which it is known what follows its lowest k bits
bit_is : (w k x : ℕ) → w / 2 ^ k ≡ x → bit w k ≡ eqb (x % 2) 1
bit_is w k x e = ap (λ (y : ℕ). eqb (y % 2) 1) e

bit_pow_above : (d k : ℕ) → bit (2 ^ (suc d + k)) k ≡ false
bit_pow_above d k =
    bit_is _ k (1 * 2 ^ suc d) (ap (λ (x : ℕ). x / 2 ^ k) (pow-add 2 (suc d) k) ∙ shl-shr (2 ^ suc d) k ∙ sym (one-mul (2 ^ suc d)))
    ∙ ap (λ (x : ℕ). eqb x 1) (shifted_even 1 d)

bit_pow : (n k : ℕ) → bit (2 ^ n) k ≡ eqb k n
bit_pow n k =
    ⊎_elim (λ e. subst (λ (m : ℕ). bit (2 ^ n) m ≡ eqb m n) (sym e) (bit_is _ n 1 (ap (λ (x : ℕ). x / 2 ^ n) (sym (one-mul (2 ^ n))) ∙ shl-shr 1 n) ∙ sym (eq-eqb n n refl)))
    (⊎_elim (λ h. let e : suc (n - suc k) + k ≡ n = omega arith in subst (λ (m : ℕ). bit (2 ^ m) k ≡ false) e (bit_pow_above (n - suc k) k) ∙ sym (ne_eqb k n (λ e. omega arith)))
    (λ h. bit_is _ k 0 (div-eq_of_lt (pow_below n k h)) ∙ sym (ne_eqb k n (λ e. omega arith))))
    (cases_order k n)

-- two numbers of one word are the same exactly if they are so in it
same_word : (m n : ℕ) → m / 64 ≡ n / 64 → eqb (m % 64) (n % 64) ≡ eqb m n
same_word m n e =
    ⊎_elim (λ h. eq-eqb _ _ (ap (λ (x : ℕ). x % 64) h) ∙ sym (eq-eqb m n h))
    (λ ne. ne_eqb _ _ (λ h. ne (omega arith)) ∙ sym (ne_eqb m n ne))
    (cases_eq m n)

-- the bit of one number is set, and every other bit stays
pub has_with : (a c : RuleSet) (n : ℕ) → n < 256 → c.words ≡ set a.words (n / 64) (bit_or (get_or a.words (n / 64) 0) (2 ^ (n % 64))) → (m : ℕ) → has c m ≡ (eqb m n || has a m)
unfolding has
has_with a c n l e m =
    let w = get_or a.words (n / 64) 0 in
    let v = bit_or w (2 ^ (n % 64)) in
    let long : n / 64 < length a.words = omega (arith, a.sized) in
    ap (λ ws. bit (get_or ws (m / 64) 0) (m % 64)) e
    ∙ ⊎_elim
    (λ f.
    ap (λ (i : ℕ). bit (get_or (set a.words (n / 64) v) i 0) (m % 64)) f
    ∙ ap (λ (x : ℕ). bit x (m % 64)) (get_or-set_same a.words (n / 64) v 0 long)
    ∙ bit_op ors w (2 ^ (n % 64)) (m % 64)
    ∙ or_comm (bit w (m % 64)) (bit (2 ^ (n % 64)) (m % 64))
    ∙ ap₂ (λ b (i : ℕ). b || bit (get_or a.words i 0) (m % 64)) (bit_pow (n % 64) (m % 64) ∙ same_word m n f) (sym f))
    (λ ne.
    ap (λ (x : ℕ). bit x (m % 64)) (get_or-set_other a.words (n / 64) (m / 64) v 0 ne)
    ∙ ap (λ b. b || has a m) (sym (ne_eqb m n (λ f. ne (ap (λ (x : ℕ). x / 64) f)))))
    (cases_eq (m / 64) (n / 64))
