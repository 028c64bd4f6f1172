-- The last row that passes a test.
use Rattle.std.proofs.Common.{◌≡◌, ℕ, zero, suc, ◌+◌, ◌<◌, ◌≤◌, Bool, true, cond, Some, None, refl, ap, add-one, arith}
use Rattle.std.proofs.lemmas.Bool.Decides.{nat_tests}
use Rattle.keytables.specs.Chains.{latest}

pub latest_more : (test : ℕ → Bool) (n : ℕ) → latest test (n + 1) ≡ cond (test n) (Some n) (latest test n)
unfolding latest
latest_more test n = ap (latest test) (add-one n)

pub latest_none : (test : ℕ → Bool) (n : ℕ) → ((j : ℕ) → j < n → test j ≡ true → ⊥) → latest test n ≡ None
unfolding latest
latest_none test zero not = refl
latest_none test (suc n) not = grind (arith, nat_tests, latest_none test n (λ j l. not j (omega arith)), not n)

pub latest_some : (test : ℕ → Bool) (n i : ℕ) → i < n → test i ≡ true → ((j : ℕ) → j < n → test j ≡ true → j ≤ i) → latest test n ≡ Some i
unfolding latest
latest_some test zero i l t up = absurd (omega arith)
latest_some test (suc n) i l t up = grind (arith, nat_tests, latest_some test n i, up n)

pub latest_same : (f g : ℕ → Bool) (n : ℕ) → ((j : ℕ) → j < n → f j ≡ g j) → latest f n ≡ latest g n
unfolding latest
latest_same f g zero same = refl
latest_same f g (suc n) same = cc (same n (omega arith), latest_same f g n (λ j l. same j (omega arith)))

pub latest_holds : (test : ℕ → Bool) (n i : ℕ) → latest test n ≡ Some i → (i < n) × (test i ≡ true)
unfolding latest
latest_holds test zero i e = cc
latest_holds test (suc n) i e = grind (arith, nat_tests, latest_holds test n i)
