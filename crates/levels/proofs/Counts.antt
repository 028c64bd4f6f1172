-- How many elements of a list pass a test, where each element counts once.
use Rattle.std.proofs.Common.{◌≡◌, ℕ, zero, suc, ◌+◌, ◌<◌, ◌≤◌, Bool, true, false, cond, not, ◌&&◌, ◌||◌, eqb, ltb, List, [], ◌∷◌, ◌++◌, length, get_or, take, drop, filter, sym, refl, ap, ◌∙◌, arith}
use Rattle.std.specs.List.{AllByRecursion}
use Rattle.std.proofs.lemmas.List.Elements.{filter-append}
use Rattle.std.proofs.lemmas.List.{at_drop_more, take_more}
use Rattle.std.proofs.lemmas.Bool.{and_parts, and_right, both_ways, eqb-true, le-ltb}
use Rattle.std.proofs.lemmas.Bool.Decides.{nat_tests}
use Rattle.fields.specs.Lists.{any, once}

pub or_false : (b c : Bool) → c ≡ false → (b || c) ≡ b
or_false true c h = refl
or_false false c h = h

never : (a b : Bool) → (b ≡ true → a ≡ true) → (not a && b) ≡ false
never true b h = refl
never false true h = sym (h refl)
never false false h = refl

still : (a b : Bool) → (a ≡ true → b ≡ true → ⊥) → (not a && b) ≡ b
still true true h = absurd (h refl refl)
still true false h = refl
still false b h = refl

-- the sum of f over the numbers below k
unfoldable pub tally : (ℕ → ℕ) → ℕ → ℕ
tally f zero = 0
tally f (suc k) = tally f k + f k

pub tally_same : (f g : ℕ → ℕ) → ((n : ℕ) → f n ≡ g n) → (k : ℕ) → tally f k ≡ tally g k
unfolding tally
tally_same f g h zero = refl
tally_same f g h (suc k) = omega (arith, h k, tally_same f g h k)

pub tally_le : (f : ℕ → ℕ) → ((n : ℕ) → f n ≤ 1) → (k : ℕ) → tally f k ≤ k
unfolding tally
tally_le f h zero = omega arith
tally_le f h (suc k) = omega (arith, h k, tally_le f h k)

-- g is f, and one more at 0
pub tally_first : (f g : ℕ → ℕ) → g 0 ≡ f 0 + 1 → ((n : ℕ) → g (suc n) ≡ f (suc n)) → (k : ℕ) → tally g (suc k) ≡ tally f (suc k) + 1
unfolding tally
tally_first f g h e zero = omega arith
tally_first f g h e (suc k) = omega (arith, e k, tally_first f g h e k)

module _ {X : Type 0} where
  pub any_push : (t : X → Bool) (xs : List X) (y : X) → any t (xs ++ y ∷ []) ≡ (any t xs || t y)
  any_push t [] y = or_false (t y) false refl
  any_push t (x ∷ xs) y = go (t x) (any_push t xs y)
    where
      go : (b : Bool) → any t (xs ++ y ∷ []) ≡ (any t xs || t y) → (b || any t (xs ++ y ∷ [])) ≡ ((b || any t xs) || t y)
      go true ih = refl
      go false ih = ih

  pub any_same : (s t : X → Bool) → ((x : X) → s x ≡ t x) → (xs : List X) → any s xs ≡ any t xs
  any_same s t h [] = refl
  any_same s t h (x ∷ xs) = rw (h x, any_same s t h xs)

  pub any_and : (b : Bool) (t : X → Bool) (xs : List X) → any (λ x. b && t x) xs ≡ (b && any t xs)
  any_and true t xs = refl
  any_and false t [] = refl
  any_and false t (x ∷ xs) = any_and false t xs

  -- a loop's step: x stands at i
  pub take_read : (xs : List X) (i : ℕ) (x : X) → i < length xs → x ≡ get_or xs i x → take i xs ++ x ∷ [] ≡ take (i + 1) xs
  take_read xs i x h e = sym (take_more xs i x h ∙ ap (λ y. take i xs ++ y ∷ []) (sym e))

  pub any_drop_more : (t : X → Bool) (xs : List X) (i : ℕ) (x : X) (b : Bool) → i < length xs → x ≡ get_or xs i x → b ≡ t x → any t (drop i xs) ≡ (b || any t (drop (i + 1) xs))
  any_drop_more t xs i x b h e k = at_drop_more (any t) xs i x h ∙ ap (λ y. t y || any t (drop (i + 1) xs)) (sym e) ∙ ap (λ c. c || any t (drop (i + 1) xs)) (sym k)

  pub everywhere : (P : X → Type 0) → ((x : X) → P x) → (xs : List X) → AllByRecursion P xs
  everywhere P h [] = tt
  everywhere P h (x ∷ xs) = (h x, everywhere P h xs)

  pub kept_twice : (s t : X → Bool) (xs : List X) → filter s (filter t xs) ≡ filter (λ x. t x && s x) xs
  kept_twice s t [] = refl
  kept_twice s t (x ∷ xs) = go (t x) (kept_twice s t xs)
    where
      go : (b : Bool) → filter s (filter t xs) ≡ filter (λ y. t y && s y) xs → filter s (cond b (x ∷ filter t xs) (filter t xs)) ≡ cond (b && s x) (x ∷ filter (λ y. t y && s y) xs) (filter (λ y. t y && s y) xs)
      go true ih = ap (λ l. cond (s x) (x ∷ l) l) ih
      go false ih = ih

  pub kept_same : (s t : X → Bool) (xs : List X) → AllByRecursion (λ x. s x ≡ t x) xs → filter s xs ≡ filter t xs
  kept_same s t [] h = refl
  kept_same s t (x ∷ xs) h = ap (λ b. cond b (x ∷ filter s xs) (filter s xs)) h.0 ∙ ap (λ l. cond (t x) (x ∷ l) l) (kept_same s t xs h.1)

  pub kept_none : (t : X → Bool) → ((x : X) → t x ≡ false) → (xs : List X) → filter t xs ≡ []
  kept_none t h [] = refl
  kept_none t h (x ∷ xs) = ap (λ b. cond b (x ∷ filter t xs) (filter t xs)) (h x) ∙ kept_none t h xs

  pub kept_all : (t : X → Bool) (xs : List X) → AllByRecursion (λ x. t x ≡ true) xs → filter t xs ≡ xs
  kept_all t [] h = refl
  kept_all t (x ∷ xs) h = ap (λ b. cond b (x ∷ filter t xs) (filter t xs)) h.0 ∙ ap (λ l. x ∷ l) (kept_all t xs h.1)

  pub kept_has : (t : X → Bool) (P : X → Type 0) (xs : List X) → AllByRecursion (λ x. t x ≡ true → P x) xs → AllByRecursion P (filter t xs)
  kept_has t P [] h = tt
  kept_has t P (x ∷ xs) h = go (t x) h.0 (kept_has t P xs h.1)
    where
      go : (b : Bool) → (b ≡ true → P x) → AllByRecursion P (filter t xs) → AllByRecursion P (cond b (x ∷ filter t xs) (filter t xs))
      go true k ih = (k refl, ih)
      go false k ih = ih

  pub any_kept : (t : X → Bool) (xs : List X) → length (filter t xs) ≡ 1 → any t xs ≡ true
  any_kept t [] h = absurd (omega arith)
  any_kept t (x ∷ xs) h = go (t x) (any_kept t xs) h
    where
      go : (b : Bool) → (length (filter t xs) ≡ 1 → any t xs ≡ true) → length (cond b (x ∷ filter t xs) (filter t xs)) ≡ 1 → (b || any t xs) ≡ true
      go true ih k = refl
      go false ih k = ih k

  count_cons : (t : X → Bool) (x : X) (xs : List X) → length (filter t (x ∷ xs)) ≡ cond (t x) 1 0 + length (filter t xs)
  count_cons t x xs = go (t x)
    where
      go : (b : Bool) → length (cond b (x ∷ filter t xs) (filter t xs)) ≡ cond b 1 0 + length (filter t xs)
      go true = omega arith
      go false = omega arith

  -- a test of two parts that do not meet
  pub count_split : (t a b : X → Bool) → ((x : X) → cond (t x) 1 0 ≡ cond (a x) 1 0 + cond (b x) 1 0) → (xs : List X) → length (filter t xs) ≡ length (filter a xs) + length (filter b xs)
  count_split t a b h [] = refl
  count_split t a b h (x ∷ xs) = omega (arith, count_cons t x xs, count_cons a x xs, count_cons b x xs, h x, count_split t a b h xs)

  pub once_push : (eq : X → X → Bool) (xs : List X) (y : X) → once eq (xs ++ y ∷ []) ≡ once eq xs ++ cond (any (λ z. eq z y) xs) [] (y ∷ [])
  once_push eq [] y = refl
  once_push eq (x ∷ xs) y =
      ap (λ l. x ∷ filter (λ z. not (eq x z)) l) (once_push eq xs y)
      ∙ ap (λ l. x ∷ l) (filter-append (λ z. not (eq x z)) (once eq xs) _)
      ∙ ap (λ l. x ∷ filter (λ z. not (eq x z)) (once eq xs) ++ l) (go (any (λ z. eq z y) xs) (eq x y) refl)
    where
      go : (a b : Bool) → eq x y ≡ b → filter (λ z. not (eq x z)) (cond a [] (y ∷ [])) ≡ cond (b || a) [] (y ∷ [])
      go true true e = refl
      go true false e = refl
      go false true e = ap (λ c. cond (not c) (y ∷ []) []) e
      go false false e = ap (λ c. cond (not c) (y ∷ []) []) e

  -- of what passes, one more: y, where it passes and is new
  pub kept_once_push : (eq : X → X → Bool) (t : X → Bool) (xs : List X) (y : X) → filter t (once eq (xs ++ y ∷ [])) ≡ filter t (once eq xs) ++ cond (t y && not (any (λ z. eq z y) xs)) (y ∷ []) []
  kept_once_push eq t xs y =
      ap (filter t) (once_push eq xs y) ∙ filter-append t (once eq xs) _ ∙ ap (λ l. filter t (once eq xs) ++ l) (go (any (λ z. eq z y) xs) (t y) refl)
    where
      go : (a b : Bool) → t y ≡ b → filter t (cond a [] (y ∷ [])) ≡ cond (b && not a) (y ∷ []) []
      go true true e = refl
      go true false e = refl
      go false true e = ap (λ c. cond c (y ∷ []) []) e
      go false false e = ap (λ c. cond c (y ∷ []) []) e

  module _ (eq : X → X → Bool) (is : (x y : X) → eq x y ≡ true → x ≡ y) where
    -- where all that pass are the same, one is kept, if any passes
    pub one_each : (t : X → Bool) → ((x y : X) → t x ≡ true → t y ≡ true → eq x y ≡ true) → (xs : List X) → length (filter t (once eq xs)) ≡ cond (any t xs) 1 0
    one_each t one [] = refl
    one_each t one (x ∷ xs) = ap (λ l. length (cond (t x) (x ∷ l) l)) (kept_twice t _ (once eq xs)) ∙ go (t x) refl (one_each t one xs)
      where
        go : (b : Bool) → t x ≡ b → length (filter t (once eq xs)) ≡ cond (any t xs) 1 0 → length (cond b (x ∷ filter (λ y. not (eq x y) && t y) (once eq xs)) (filter (λ y. not (eq x y) && t y) (once eq xs))) ≡ cond (b || any t xs) 1 0
        go true e ih = ap (λ l. length (x ∷ l)) (kept_none _ (λ y. never (eq x y) (t y) (one x y e)) (once eq xs))
        go false e ih = ap length (kept_same _ t (once eq xs) (everywhere _ (λ y. still (eq x y) (t y) (λ f h. both_ways (t x) e (ap t (is x y f) ∙ h))) (once eq xs))) ∙ ih

    -- where those that pass and have one key are the same, as many pass as there are keys
    pub by_keys : (t : X → Bool) (key : X → ℕ) → ((x y : X) → t x ≡ true → t y ≡ true → key x ≡ key y → eq x y ≡ true) → (xs : List X) (k : ℕ) → length (filter (λ x. t x && ltb (key x) k) (once eq xs)) ≡ tally (λ n. cond (any (λ x. t x && eqb (key x) n) xs) 1 0) k
    unfolding tally
    by_keys t key one xs zero = ap length (kept_none (λ x. t x && ltb (key x) zero) (λ x. and_right (t x) _ (le-ltb (key x) zero (omega arith))) (once eq xs))
    by_keys t key one xs (suc k) =
        count_split (λ x. t x && ltb (key x) (suc k)) (λ x. t x && ltb (key x) k) (λ x. t x && eqb (key x) k) (λ x. parts (t x) (key x)) (once eq xs)
        ∙ ap (λ (m : ℕ). m + length (filter (λ x. t x && eqb (key x) k) (once eq xs))) (by_keys t key one xs k)
        ∙ ap (λ (m : ℕ). tally (λ n. cond (any (λ x. t x && eqb (key x) n) xs) 1 0) k + m) (one_each (λ x. t x && eqb (key x) k) (λ x y a b. one x y (and_parts _ _ a).0 (and_parts _ _ b).0 (eqb-true _ _ (and_parts (t x) _ a).1 ∙ sym (eqb-true _ _ (and_parts (t y) _ b).1))) xs)
      where
        parts : (b : Bool) (m : ℕ) → cond (b && ltb m (suc k)) 1 0 ≡ cond (b && ltb m k) 1 0 + cond (b && eqb m k) 1 0
        parts true m = grind (arith, nat_tests)
        parts false m = refl
