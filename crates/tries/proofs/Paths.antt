-- The bits of a path.
use Rattle.std.proofs.Common.{◌≡◌, ℕ, zero, suc, ◌-◌, ◌/◌, ◌%◌, ◌^◌, ◌==◌, false, pow_mono, ◌<◌, ◌≤◌, [], ◌∷◌, length, take, sym, ap, ◌∙◌, sub-one, arith}
use Rattle.std.proofs.lemmas.List.{length-take-le, take-take}
use native.Mathlib.Nat.{div-eq_of_lt}
use Rattle.tries.specs.Digits.{digit, digits, digits_length}
use Rattle.tries.specs.Spelling.{Shorter, bits}
use Rattle.tries.specs.declared.path.BitPath.{BitPath}

-- past its 32 bits a number has none set
pub digit_past : (i n : ℕ) → n < 2 ^ 32 → 32 ≤ i → digit i n ≡ false
unfolding digit
digit_past i n h l =
    let p = pow_mono {i = 32} {j = i} l in
    let z : n / 2 ^ i ≡ 0 = div-eq_of_lt (omega arith) in
    ap (λ (x : ℕ). x % 2 == 1) z

-- no bits, and the first bit with those after it
pub none_first : (l w n : ℕ) → l ≡ 0 → take l (digits w n) ≡ []
none_first l w n h = ap (λ (k : ℕ). take k (digits w n)) h

pub one_first : (l w n : ℕ) → 0 < l → l ≤ w → take l (digits w n) ≡ digit (w - 1) n ∷ take (l - 1) (digits (w - 1) n)
one_first zero w n h k = absurd (omega arith)
one_first (suc l) zero n h k = absurd (omega arith)
one_first (suc l) (suc w) n h k = simp sub-one

pub many_first : (l w n : ℕ) → l ≤ w → length (take l (digits w n)) ≡ l
many_first l w n h = length-take-le l (digits w n) (omega (arith, digits_length w n))

pub ruleset first_steps = (none_first, one_first, many_first)

pub bits_length : (p : BitPath) → length (bits p) ≡ p.length
unfolding bits
bits_length p = many_first p.length p.width p.number p.short

-- a path without its last bit
pub bits_shorter : (p q : BitPath) → Shorter p q → bits q ≡ take (length (bits p) - 1) (bits p)
unfolding bits
bits_shorter p q h =
    ap (λ (k : ℕ). take q.length (digits k q.number)) h.width
    ∙ ap (λ (k : ℕ). take q.length (digits p.width k)) h.number
    ∙ sym (take-take q.length p.length (digits p.width p.number) (omega (arith, h.length)))
    ∙ ap (λ (k : ℕ). take k (bits p)) (omega (arith, h.length, bits_length p))
