-- The members of a set, by the numbers that it has.
use Rattle.std.proofs.Common.{◌≡◌, ℕ, zero, suc, ◌+◌, ◌/◌, ◌%◌, ◌^◌, ◌<◌, ◌≤◌, Bool, true, false, cond, ◌&&◌, ◌||◌, eqb, List, [], ◌∷◌, ◌++◌, length, filter, sym, refl, ap, ◌∙◌, subst, ap₂, ⊎_elim, arith}
use mathlib.Core.Bool.{and-true}
use native.Mathlib.Nat.{zero-div}
use Rattle.std.specs.List.{range_with_len, AllByRecursion}
use Rattle.std.proofs.ByRecursion.{all_kept_by, All-weaker}
use Rattle.std.proofs.lemmas.List.{get_or_past}
use Rattle.std.proofs.lemmas.Bool.{and_right, cases_eq, cond_both, eq-eqb, eqb-true, ne_eqb, or_left, or_right}
use Rattle.std.proofs.lemmas.Bool.Decides.{nat_tests}
use Rattle.fields.specs.Lists.{any}
use Rattle.rulesets.specs.Sets.{has, members}
use Rattle.rulesets.specs.declared.ruleset.RuleSet.{RuleSet}

-- each number is below all that follow
abbrev pub Ascending : List ℕ → Type 0
Ascending [] = Unit {0}
Ascending (x ∷ xs) = AllByRecursion (λ y. x < y) xs × Ascending xs

-- ---- what a filter keeps

module _ {X : Type 0} where
  everywhere : {P : X → Type 0} → ((x : X) → P x) → (xs : List X) → AllByRecursion P xs
  everywhere h [] = tt
  everywhere h (x ∷ xs) = (h x, everywhere h xs)

  module _ (p q : X → Bool) where
    kept_same : (xs : List X) → AllByRecursion (λ x. p x ≡ q x) xs → filter p xs ≡ filter q xs
    kept_same [] h = refl
    kept_same (x ∷ xs) h = ap₂ (λ b ys. cond b (x ∷ ys) ys) h.0 (kept_same xs h.1)

    kept_both : (r : X → Bool) → ((x : X) → r x ≡ (p x && q x)) → (xs : List X) → filter r xs ≡ filter q (filter p xs)
    kept_both r h [] = refl
    kept_both r h (x ∷ xs) = ap₂ (λ b ys. cond b (x ∷ ys) ys) (h x) (kept_both r h xs) ∙ go (p x)
      where
        go : (b : Bool) → cond (b && q x) (x ∷ filter q (filter p xs)) (filter q (filter p xs)) ≡ filter q (cond b (x ∷ filter p xs) (filter p xs))
        go true = refl
        go false = refl

-- n is among what is kept just where it is kept and was there
any_kept : (p : ℕ → Bool) (n : ℕ) (xs : List ℕ) → any (λ m. eqb m n) (filter p xs) ≡ (p n && any (λ m. eqb m n) xs)
any_kept p n [] = sym (and_right (p n) false refl)
any_kept p n (x ∷ xs) = head (p x) ∙ law (p x) (eqb x n) (p n) _ _ (λ e. ap p (eqb-true x n e)) (any_kept p n xs)
  where
    kept : List ℕ
    kept = filter p xs

    head : (b : Bool) → any (λ m. eqb m n) (cond b (x ∷ kept) kept) ≡ cond b (eqb x n || any (λ m. eqb m n) kept) (any (λ m. eqb m n) kept)
    head true = refl
    head false = refl

    law : (b e d k a : Bool) → (e ≡ true → b ≡ d) → k ≡ (d && a) → cond b (e || k) k ≡ (d && (e || a))
    law b e d k a h i = grind (arith, nat_tests)

kept_ascending : (p : ℕ → Bool) (xs : List ℕ) → Ascending xs → Ascending (filter p xs)
kept_ascending p [] h = tt
kept_ascending p (x ∷ xs) h =
    let rest = kept_ascending p xs h.1 in
    cond_both (p x) (x ∷ filter p xs) (filter p xs) Ascending (λ _. (all_kept_by p _ xs h.0, rest)) (λ _. rest)

-- ---- what a filter keeps of the numbers from a on

counting_within : (a k n : ℕ) → a + k ≤ n → AllByRecursion (λ m. (a ≤ m) × (m < n)) (range_with_len a k)
counting_within a zero n l = tt
counting_within a (suc k) n l = ((omega arith, omega arith), All-weaker _ _ (λ m h. (omega arith, h.1)) _ (counting_within (a + 1) k n (omega arith)))

counting_from : (n a k : ℕ) → n ≤ a → AllByRecursion (λ m. n ≤ m) (range_with_len a k)
counting_from n a k l = All-weaker _ _ (λ m h. omega (arith, h.0)) _ (counting_within a k (a + k) (omega arith))

counting_ascending : (a k : ℕ) → Ascending (range_with_len a k)
counting_ascending a zero = tt
counting_ascending a (suc k) = (All-weaker _ _ (λ m h. omega arith) _ (counting_from (a + 1) (a + 1) k (omega arith)), counting_ascending (a + 1) k)

any_counting : (n a k : ℕ) → a ≤ n → n < a + k → any (λ m. eqb m n) (range_with_len a k) ≡ true
any_counting n a zero l h = absurd (omega arith)
any_counting n a (suc k) l h =
    ⊎_elim (λ e. or_left _ _ (eq-eqb a n e)) (λ ne. or_right (eqb a n) _ (any_counting n (a + 1) k (omega arith) (omega arith))) (cases_eq a n)

none_between : (n : ℕ) (xs : List ℕ) → AllByRecursion (λ m. m < n) xs → AllByRecursion (λ m. n ≤ m) xs → xs ≡ []
none_between n [] h k = refl
none_between n (x ∷ xs) h k = absurd (omega (arith, h.0, k.0))

-- one number more, which is past all that were kept
module _ (p c : ℕ → Bool) (n : ℕ) (more : (m : ℕ) → c m ≡ (eqb m n || p m)) where
  others : (m : ℕ) → (m ≡ n → ⊥) → c m ≡ p m
  others m ne = more m ∙ ap (λ b. b || p m) (ne_eqb m n ne)

  none_kept : (a k : ℕ) → n ≤ a → AllByRecursion (λ m. m < n) (filter p (range_with_len a k)) → filter p (range_with_len a k) ≡ []
  none_kept a k l h = none_between n _ h (all_kept_by p _ (range_with_len a k) (counting_from n a k l))

  kept_more : (a k : ℕ) → a ≤ n → n < a + k → AllByRecursion (λ m. m < n) (filter p (range_with_len a k)) → filter c (range_with_len a k) ≡ filter p (range_with_len a k) ++ n ∷ []
  kept_more a zero l t h = absurd (omega arith)
  kept_more a (suc k) l t h =
      let rest = tail (p a) h in
      ⊎_elim
      (λ e.
      let same = kept_same c p (range_with_len (a + 1) k) (All-weaker _ _ (λ m i. others m (λ f. omega arith)) _ (counting_from (a + 1) (a + 1) k (omega arith))) in
      ap₂ (λ b ys. cond b (a ∷ ys) ys) (more a ∙ or_left _ _ (eq-eqb a n e)) (same ∙ none_kept (a + 1) k (omega arith) rest)
      ∙ ap (λ (m : ℕ). m ∷ []) e
      ∙ ap (λ ys. ys ++ n ∷ []) (sym (none_kept a (suc k) (omega arith) h)))
      (λ ne. ap₂ (λ b ys. cond b (a ∷ ys) ys) (others a ne) (kept_more (a + 1) k (omega arith) (omega arith) rest) ∙ push (p a))
      (cases_eq a n)
    where
      kept : List ℕ
      kept = filter p (range_with_len (a + 1) k)

      tail : (b : Bool) → AllByRecursion (λ m. m < n) (cond b (a ∷ kept) kept) → AllByRecursion (λ m. m < n) kept
      tail true i = i.1
      tail false i = i

      push : (b : Bool) → cond b (a ∷ (kept ++ n ∷ [])) (kept ++ n ∷ []) ≡ cond b (a ∷ kept) kept ++ n ∷ []
      push true = refl
      push false = refl

-- ---- sets

pub members_by : (s : RuleSet) → members s ≡ filter (has s) (range_with_len 0 256)
unfolding members
members_by s = refl

-- the same at a number that does not compute
pub members_at : (s : RuleSet) (n : ℕ) → n ≡ 256 → members s ≡ filter (has s) (range_with_len 0 n)
members_at s n e = subst (λ (k : ℕ). members s ≡ filter (has s) (range_with_len 0 k)) (sym e) (members_by s)

full : ℕ
full = 256

full_is : full ≡ 256
unfolding full
full_is = refl

members_full : (s : RuleSet) → members s ≡ filter (has s) (range_with_len 0 full)
members_full s = members_at s full full_is

pub same_members : (a b : RuleSet) → ((m : ℕ) → has a m ≡ has b m) → members a ≡ members b
same_members a b h = members_full a ∙ kept_same (has a) (has b) (range_with_len 0 full) (everywhere h (range_with_len 0 full)) ∙ sym (members_full b)

pub members_and : (a b c : RuleSet) → ((m : ℕ) → has c m ≡ (has a m && has b m)) → members c ≡ filter (has b) (members a)
members_and a b c h = members_full c ∙ kept_both (has a) (has b) (has c) h (range_with_len 0 full) ∙ ap (filter (has b)) (sym (members_full a))

-- n is put in, past all members
pub members_with : (a c : RuleSet) (n : ℕ) → n < 256 → ((m : ℕ) → has c m ≡ (eqb m n || has a m)) → AllByRecursion (λ m. m < n) (members a) → members c ≡ members a ++ n ∷ []
members_with a c n l h below =
    members_full c
    ∙ kept_more (has a) (has c) n h 0 full (omega arith) (omega (arith, full_is)) (subst (AllByRecursion (λ m. m < n)) (members_full a) below)
    ∙ ap (λ ys. ys ++ n ∷ []) (sym (members_full a))

pub has_outside : (s : RuleSet) (n : ℕ) → 256 ≤ n → has s n ≡ false
unfolding has
has_outside s n h =
    let past : length s.words ≤ n / 64 = omega (arith, s.sized) in
    ap (λ (w : ℕ). eqb (w / 2 ^ (n % 64) % 2) 1) (get_or_past s.words (n / 64) 0 past) ∙ ap (λ (w : ℕ). eqb (w % 2) 1) (zero-div (2 ^ (n % 64)))

pub has_members : (s : RuleSet) (n : ℕ) → n < 256 → has s n ≡ any (λ m. eqb m n) (members s)
has_members s n l =
    sym (and-true (has s n)) ∙ ap (λ b. has s n && b) (sym (any_counting n 0 full (omega arith) (omega (arith, full_is))))
    ∙ sym (any_kept (has s) n (range_with_len 0 full)) ∙ ap (any (λ m. eqb m n)) (sym (members_full s))

pub members_below : (s : RuleSet) → AllByRecursion (λ m. m < 256) (members s)
members_below s =
    subst (AllByRecursion (λ m. m < 256)) (sym (members_full s))
    (all_kept_by (has s) _ (range_with_len 0 full) (All-weaker _ _ (λ m h. h.1) _ (counting_within 0 full 256 (omega (arith, full_is)))))

pub members_ascending : (s : RuleSet) → Ascending (members s)
members_ascending s = subst Ascending (sym (members_full s)) (kept_ascending (has s) (range_with_len 0 full) (counting_ascending 0 full))
