-- Combinations, place by place.
use Rattle.std.proofs.Common.{◌≡◌, ℕ, zero, suc, ◌+◌, ◌<◌, ◌≤◌, Bool, true, false, ◌&&◌, List, [], ◌∷◌, map, length, refl, ap, ◌∙◌, arith}
use mathlib.Core.Path.{fun_ext}
use Rattle.std.specs.List.{flat_map, AllByRecursion}
use Rattle.std.proofs.ByRecursion.{All-map, All-weaker}
use Rattle.std.proofs.lemmas.List.{append-nil, length-map}
use Rattle.std.proofs.lemmas.Bool.{and_from, and_parts, and_left, and_right, or_left}
use Rattle.fields.specs.Lists.{any}
use Rattle.levels.proofs.Counts.{any_and, everywhere}
use Rattle.groups.specs.Keys.{Combination, combinations, along}
use Rattle.groups.proofs.Tests.{Found, all_joined, any_and_right, any_map, any_joined}
use Rattle.groups.proofs.Apart.{Apart, apart_append}

module _ {P : ℕ → Type 0} where
  -- what holds at every place of a combination, and a test of it
  abbrev pub Places : ((i : ℕ) → P i → Type 0) → (i n : ℕ) → Combination P i n → Type 0
  Places F i zero k = Unit {0}
  Places F i (suc n) k = F i k.0 × Places F (suc i) n k.1

  abbrev holds : ((i : ℕ) → P i → Bool) → (i n : ℕ) → Combination P i n → Bool
  holds q i zero k = true
  holds q i (suc n) k = q i k.0 && holds q (suc i) n k.1

  pub holds_true : (q : (i : ℕ) → P i → Bool) (n i : ℕ) (k : Combination P i n) → Places (λ j p. q j p ≡ true) i n k → holds q i n k ≡ true
  holds_true q zero i k h = refl
  holds_true q (suc n) i k h = and_from _ _ h.0 (holds_true q n (suc i) k.1 h.1)

  pub all_combinations : (F : (i : ℕ) → P i → Type 0) (f : (i : ℕ) → List (P i)) (n i : ℕ) → ((j : ℕ) → j < i + n → AllByRecursion (F j) (f j)) → AllByRecursion (Places F i n) (combinations f i n)
  all_combinations F f zero i h = (tt, tt)
  all_combinations F f (suc n) i h =
      all_joined (Places F i (suc n)) _ (f i)
      (All-weaker (F i) _
      (λ p a. All-map (Places F i (suc n)) (λ k. (p, k)) _ (All-weaker _ (λ k. F i p × Places F (suc i) n k) (λ k b. (a, b)) _ (all_combinations F f n (suc i) (λ j l. h j (omega arith)))))
      (f i) (h i (omega arith)))

  -- some combination is along k exactly if at each place something is
  pub any_along : (w : (i : ℕ) → P i → P i → Bool) (f : (i : ℕ) → List (P i)) (n i : ℕ) (k : Combination P i n) → any (along w i n k) (combinations f i n) ≡ holds (λ j p. any (w j p) (f j)) i n k
  any_along w f zero i k = refl
  any_along w f (suc n) i k =
      any_joined (along w i (suc n) k) (λ p. map (λ l. (p, l)) (combinations f (suc i) n)) (f i)
      ∙ ap (λ t. any t (f i)) (fun_ext (λ p. any_map (along w i (suc n) k) (λ l. (p, l)) (combinations f (suc i) n) ∙ any_and (w i k.0 p) (along w (suc i) n k.1) (combinations f (suc i) n)))
      ∙ any_and_right _ (w i k.0) (f i)
      ∙ ap (λ b. any (w i k.0) (f i) && b) (any_along w f n (suc i) k.1)

  pub found_along : (g : (i : ℕ) → List (P i)) (n i : ℕ) (k : Combination P i n) → Places (λ j. Found (g j)) i n k → Found (combinations g i n) k
  found_along g zero i k h t e = or_left _ _ e
  found_along g (suc n) i k h t e =
      any_joined t (λ q. map (λ l. (q, l)) (combinations g (suc i) n)) (g i)
      ∙ h.0 (λ q. any t (map (λ l. (q, l)) (combinations g (suc i) n))) (any_map t (λ l. (k.0, l)) (combinations g (suc i) n) ∙ found_along g n (suc i) k.1 h.1 (λ l. t (k.0, l)) e)

  -- at most one, where each place has at most one
  pub few_combinations : (f : (i : ℕ) → List (P i)) → ((i : ℕ) → length (f i) ≤ 1) → (n i : ℕ) → length (combinations f i n) ≤ 1
  few_combinations f h zero i = omega arith
  few_combinations f h (suc n) i = go (few_combinations f h n (suc i)) (f i) (h i)
    where
      go : length (combinations f (suc i) n) ≤ 1 → (xs : List (P i)) → length xs ≤ 1 → length {A = Combination P i (suc n)} (flat_map (λ x. map (λ k. (x, k)) (combinations f (suc i) n)) xs) ≤ 1
      go ih [] l = omega arith
      go ih (x ∷ []) l =
          let wide : Combination P (suc i) n → Combination P i (suc n) = λ k. (x, k) in
          rw (append-nil (map wide (combinations f (suc i) n)), length-map (combinations f (suc i) n) wide) ih
      go ih (x ∷ y ∷ ys) l = absurd (omega arith)

  pub along_self : (r : (i : ℕ) → P i → P i → Bool) → ((i : ℕ) (x : P i) → r i x x ≡ true) → (n i : ℕ) (k : Combination P i n) → along r i n k k ≡ true
  along_self r h zero i k = refl
  along_self r h (suc n) i k = and_from _ _ (h i k.0) (along_self r h n (suc i) k.1)

  pub along_trans : (r s t : (i : ℕ) → P i → P i → Bool) → ((i : ℕ) (x y z : P i) → r i x y ≡ true → s i y z ≡ true → t i x z ≡ true) → (n i : ℕ) (x y z : Combination P i n) → along r i n x y ≡ true → along s i n y z ≡ true → along t i n x z ≡ true
  along_trans r s t f zero i x y z h k = refl
  along_trans r s t f (suc n) i x y z h k =
      let a = and_parts (r i x.0 y.0) _ h in
      let b = and_parts (s i y.0 z.0) _ k in
      and_from _ _ (f i _ y.0 _ a.0 b.0) (along_trans r s t f n (suc i) _ y.1 _ a.1 b.1)

  -- combinations of patterns of which no two are the same
  module _ (eq : (i : ℕ) → P i → P i → Bool) where
    apart_map : (i n : ℕ) (x : P i) (ks : List (Combination P (suc i) n)) → Apart (along eq (suc i) n) ks → Apart (along eq i (suc n)) (map (λ k. (x, k)) ks)
    apart_map i n x [] a = tt
    apart_map i n x (k ∷ ks) a =
        (All-map _ (λ l. (x, l)) ks (All-weaker _ (λ l. along eq i (suc n) (x, k) (x, l) ≡ false) (λ l h. and_right (eq i x x) _ h) ks a.0), apart_map i n x ks a.1)

    apart_joined : (i n : ℕ) (xs : List (P i)) (ks : List (Combination P (suc i) n)) → Apart (eq i) xs → Apart (along eq (suc i) n) ks → Apart (along eq i (suc n)) (flat_map (λ x. map (λ k. (x, k)) ks) xs)
    apart_joined i n [] ks a b = tt
    apart_joined i n (x ∷ xs) ks a b =
        let F : Combination P (suc i) n → Combination P i (suc n) → Type 0 = λ k m. along eq i (suc n) (x, k) m ≡ false in
        let others : (k : Combination P (suc i) n) → AllByRecursion (F k) (flat_map (λ y. map (λ m. (y, m)) ks) xs) = λ k. all_joined (F k) _ xs (All-weaker _ (λ y. AllByRecursion (F k) (map (λ m. (y, m)) ks)) (λ y h. All-map (F k) (λ m. (y, m)) ks (everywhere _ (λ m. and_left (eq i x y) _ h) ks)) xs a.0) in
        apart_append (along eq i (suc n)) (map (λ k. (x, k)) ks) _ (apart_map i n x ks b) (apart_joined i n xs ks a.1 b) (All-map _ (λ k. (x, k)) ks (everywhere _ others ks))

    pub apart_combinations : (f : (i : ℕ) → List (P i)) → ((i : ℕ) → Apart (eq i) (f i)) → (n i : ℕ) → Apart (along eq i n) (combinations f i n)
    apart_combinations f a zero i = (tt, tt)
    apart_combinations f a (suc n) i = apart_joined i n (f i) (combinations f (suc i) n) (a i) (apart_combinations f a n (suc i))
