-- The bits of a number from the highest on, with their laws.
use Rattle.std.specs.Prelude.{◌≡◌, ℕ, zero, suc, ◌+◌, ◌-◌, ◌*◌, ◌/◌, ◌%◌, ◌^◌, ◌<◌, ◌≤◌, Bool, false, List, [], ◌∷◌, length, take, ◌==◌, nat_eq, slice_index_or, refl}
use Rattle.std.proofs.Common.{sym, ap, ◌∙◌, subst, ⊎_elim, mod-eq_of_lt, arith}
use Rattle.std.proofs.lemmas.Nat.{shr-shr, shr_below, mod-pow-add, mod_below, field_of}
use Rattle.std.proofs.lemmas.Bool.{eqb-true, eq-eqb, cases_eq}
use Rattle.fields.specs.Lengths.{first_bits}

-- the bit at a place, counted from the lowest
unfoldable pub digit : ℕ → ℕ → Bool
digit i n = n / 2 ^ i % 2 == 1

-- the lowest w bits, the highest of them first
abbrev pub digits : ℕ → ℕ → List Bool
digits zero n = []
digits (suc w) n = digit w n ∷ digits w n

pub digits_length : (w n : ℕ) → length (digits w n) ≡ w
digits_length zero n = refl
digits_length (suc w) n = ap suc (digits_length w n)

pub digits_at : (w n i : ℕ) → i < w → slice_index_or (digits w n) i false ≡ digit (w - 1 - i) n
digits_at zero n i l = absurd (omega arith)
digits_at (suc w) n zero l = ap (λ (x : ℕ). digit x n) (omega arith)
digits_at (suc w) n (suc i) l = digits_at w n i (omega arith) ∙ ap (λ (x : ℕ). digit x n) (omega arith)

-- a number of w bits has the bits of what it is one of
wrapped_digit : (w n i : ℕ) → i < w → digit i (n % 2 ^ w) ≡ digit i n
unfolding digit
wrapped_digit w n i l =
    let s : w ≡ (w - i - 1 + 1) + i = omega arith in
    let y = n / 2 ^ i in
    let f : n % 2 ^ w / 2 ^ i ≡ y % 2 ^ (w - i - 1 + 1) = ap (λ (k : ℕ). n % 2 ^ k / 2 ^ i) s ∙ field_of n (w - i - 1 + 1) i in
    let m = mod-pow-add y (w - i - 1) 1 in
    ap (λ (x : ℕ). nat_eq (x % 2) 1) f ∙ ap (λ (x : ℕ). nat_eq x 1) (omega arith)

pub wrapped : (w n v : ℕ) → v ≤ w → digits v (n % 2 ^ w) ≡ digits v n
wrapped w n zero l = refl
wrapped w n (suc v) l = ap (λ (b : Bool). b ∷ digits v (n % 2 ^ w)) (wrapped_digit w n v (omega arith)) ∙ ap (λ (bs : List Bool). digit v n ∷ bs) (wrapped w n v (omega arith))

two : (a b : ℕ) → a < 2 → b < 2 → (a == 1) ≡ (b == 1) → a ≡ b
two a b l m e = ⊎_elim
    (λ (x : a ≡ 1). x ∙ sym (eqb-true b 1 (sym e ∙ eq-eqb a 1 x)))
    (λ (x : a ≡ 1 → ⊥). ⊎_elim (λ (y : b ≡ 1). absurd (x (eqb-true a 1 (e ∙ eq-eqb b 1 y)))) (λ (y : b ≡ 1 → ⊥). omega arith) (cases_eq b 1))
    (cases_eq a 1)

front : (l j w n m : ℕ) → w ≡ l + j → n / 2 ^ j ≡ m / 2 ^ j → take l (digits w n) ≡ take l (digits w m)
unfolding digit
front zero j w n m e h = refl
front (suc l) j zero n m e h = absurd (omega arith)
front (suc l) j (suc w) n m e h =
    let s : w ≡ j + l = omega arith in
    let up : (x : ℕ) → x / 2 ^ w ≡ x / 2 ^ j / 2 ^ l = λ x. ap (λ (y : ℕ). x / 2 ^ y) s ∙ sym (shr-shr x j l) in
    let top : n / 2 ^ w ≡ m / 2 ^ w = up n ∙ ap (λ (y : ℕ). y / 2 ^ l) h ∙ sym (up m) in
    let a : digit w n ≡ digit w m = ap (λ (y : ℕ). nat_eq (y % 2) 1) top in
    let b = front l j w n m (omega arith) h in
    ap (λ (c : Bool). c ∷ take l (digits w n)) a ∙ ap (λ (cs : List Bool). digit w m ∷ cs) b

back : (l j w n m : ℕ) → w ≡ l + j → take l (digits w n) ≡ take l (digits w m) → n / 2 ^ j % 2 ^ l ≡ m / 2 ^ j % 2 ^ l
unfolding digit
back zero j w n m e h = omega arith
back (suc l) j zero n m e h = absurd (omega arith)
back (suc l) j (suc w) n m e h =
    let s : w ≡ j + l = omega arith in
    let up : (x : ℕ) → x / 2 ^ w ≡ x / 2 ^ j / 2 ^ l = λ x. ap (λ (y : ℕ). x / 2 ^ y) s ∙ sym (shr-shr x j l) in
    let a : digit w n ≡ digit w m = cc in
    let b : take l (digits w n) ≡ take l (digits w m) = cc in
    let c = back l j w n m (omega arith) b in
    let d : n / 2 ^ w % 2 ≡ m / 2 ^ w % 2 = two _ _ (mod_below (n / 2 ^ w) 2 (omega arith)) (mod_below (m / 2 ^ w) 2 (omega arith)) a in
    let f : n / 2 ^ j / 2 ^ l % 2 ≡ m / 2 ^ j / 2 ^ l % 2 = ap (λ (y : ℕ). y % 2) (sym (up n)) ∙ d ∙ ap (λ (y : ℕ). y % 2) (up m) in
    let k : suc l ≡ 1 + l = omega arith in
    let x = mod-pow-add (n / 2 ^ j) 1 l in
    let y = mod-pow-add (m / 2 ^ j) 1 l in
    ap (λ (z : ℕ). n / 2 ^ j % 2 ^ z) k ∙ x ∙ ap (λ (z : ℕ). z * 2 ^ l + n / 2 ^ j % 2 ^ l) f ∙ ap (λ (z : ℕ). m / 2 ^ j / 2 ^ l % 2 * 2 ^ l + z) c ∙ sym y ∙ ap (λ (z : ℕ). m / 2 ^ j % 2 ^ z) (sym k)

-- two numbers agree in their first bits just where the bits agree
pub agree : (w l n m : ℕ) → l ≤ w → first_bits w l n ≡ first_bits w l m → take l (digits w n) ≡ take l (digits w m)
agree w l n m le e = front l (w - l) w n m (omega arith) e

pub agrees : (w l n m : ℕ) → l ≤ w → n < 2 ^ w → m < 2 ^ w → take l (digits w n) ≡ take l (digits w m) → first_bits w l n ≡ first_bits w l m
agrees w l n m le a b e =
    let s : w ≡ l + (w - l) = omega arith in
    let f = back l (w - l) w n m s e in
    let x : n / 2 ^ (w - l) < 2 ^ l = shr_below n l (w - l) (subst (λ (k : ℕ). n < 2 ^ k) s a) in
    let y : m / 2 ^ (w - l) < 2 ^ l = shr_below m l (w - l) (subst (λ (k : ℕ). m < 2 ^ k) s b) in
    sym (mod-eq_of_lt x) ∙ f ∙ mod-eq_of_lt y
