-- A tuple that is a head is its own nearest head.
use Rattle.std.proofs.Common.{◌≡◌, ℕ, zero, suc, ◌<◌, ◌≤◌, Bool, true, false, cond, ◌||◌, leb, List, [], ◌∷◌, length, get_or, sym, refl, ap, ◌∙◌, arith}
use mathlib.Core.Bool.{false≢true}
use Rattle.std.proofs.lemmas.Bool.{leb-true, le-leb, eqb-true, eq-eqb, both_ways, cond_both}
use Rattle.fields.specs.Lists.{any, all}
use Rattle.levels.proofs.Counts.{everywhere}
use Rattle.groups.specs.Lists.{pick, chosen}
use Rattle.groups.specs.Tuples.{distance, equal, nearest_head}
use Rattle.groups.proofs.Tests.{all_is, any_out}

distance_zero : (t u : List ℕ) → distance t u ≡ 0 → t ≡ u
distance_zero [] [] h = refl
distance_zero [] (u ∷ us) h = absurd (omega arith)
distance_zero (t ∷ ts) [] h = absurd (omega arith)
distance_zero (t ∷ ts) (u ∷ us) h =
    let e : t ≡ u = omega arith in
    let f = distance_zero ts us (omega arith) in cc

distance_self : (t : List ℕ) → distance t t ≡ 0
distance_self [] = refl
distance_self (t ∷ ts) = omega (arith, distance_self ts)

pub equal_is : (t u : List ℕ) → equal t u ≡ true → t ≡ u
equal_is t u h = distance_zero t u (eqb-true _ _ h)

pub equal_from : (t u : List ℕ) → t ≡ u → equal t u ≡ true
equal_from t u e = eq-eqb _ 0 (ap (distance t) (sym e) ∙ distance_self t)

or_swap : (a b c : Bool) → (a || (b || c)) ≡ (b || (a || c))
or_swap true true c = refl
or_swap true false c = refl
or_swap false true c = refl
or_swap false false c = refl

module _ {X : Type 0} (c : X → ℕ) where
  length_pick : (x : X) (xs : List X) → length (pick c x xs).1 ≡ length xs
  length_pick x [] = refl
  length_pick x (y ∷ ys) = go (leb (c (pick c y ys).0) (c x)) (length_pick y ys)
    where
      go : (b : Bool) → length (pick c y ys).1 ≡ length ys → length (cond {A = X × List X} b (x, y ∷ ys) ((pick c y ys).0, x ∷ (pick c y ys).1)).1 ≡ length (y ∷ ys)
      go true ih = refl
      go false ih = ap suc ih

  any_pick : (p : X → Bool) (x : X) (xs : List X) → (p (pick c x xs).0 || any p (pick c x xs).1) ≡ any p (x ∷ xs)
  any_pick p x [] = refl
  any_pick p x (y ∷ ys) = go (leb (c (pick c y ys).0) (c x)) (any_pick p y ys)
    where
      go : (b : Bool) → (p (pick c y ys).0 || any p (pick c y ys).1) ≡ any p (y ∷ ys) →
          (let r = cond {A = X × List X} b (x, y ∷ ys) ((pick c y ys).0, x ∷ (pick c y ys).1) in p r.0 || any p r.1) ≡ any p (x ∷ y ∷ ys)
      go true ih = refl
      go false ih = or_swap (p (pick c y ys).0) (p x) _ ∙ ap (λ b. p x || b) ih

  -- where enough are chosen, all are
  pub any_chosen : (p : X → Bool) (g : ℕ) (xs : List X) → length xs ≤ g → any p (chosen c g xs) ≡ any p xs
  any_chosen p zero [] l = refl
  any_chosen p zero (x ∷ xs) l = absurd (omega arith)
  any_chosen p (suc g) [] l = refl
  any_chosen p (suc g) (x ∷ xs) l = ap (λ b. p (pick c x xs).0 || b) (any_chosen p g (pick c x xs).1 (omega (arith, length_pick x xs))) ∙ any_pick p x xs

pub nearest_own : (t : List ℕ) (hs : List (List ℕ)) → any (equal t) hs ≡ true → get_or hs (nearest_head t hs) [] ≡ t
nearest_own t [] h = absurd (false≢true h)
nearest_own t (x ∷ hs) h = go (nearest_own t hs) (all nearer hs) refl (equal t x) refl h
  where
    nearer : List ℕ → Bool
    nearer u = leb (distance t x) (distance t u)

    go : (any (equal t) hs ≡ true → get_or hs (nearest_head t hs) [] ≡ t) → (b : Bool) → all nearer hs ≡ b → (c : Bool) → equal t x ≡ c → (c || any (equal t) hs) ≡ true → get_or (x ∷ hs) (cond b 0 (suc (nearest_head t hs))) [] ≡ t
    go ih true e true f k = sym (equal_is t x f)
    go ih true e false f k = any_out _ (equal t) (x ≡ t) (λ u l q. sym (distance_zero t x (omega (arith, leb-true _ _ l, eqb-true _ _ q)))) hs ((all_is nearer hs).0 e) k
    go ih false e true f k = absurd (both_ways _ e ((all_is nearer hs).1 (everywhere _ (λ u. le-leb _ _ (omega (arith, eqb-true _ _ f))) hs)))
    go ih false e false f k = ih k

pub nearest_in : (t h : List ℕ) (hs : List (List ℕ)) → nearest_head t (h ∷ hs) < length (h ∷ hs)
nearest_in t h [] = omega arith
nearest_in t h (k ∷ hs) = cond_both _ 0 (suc (nearest_head t (k ∷ hs))) (λ n. n < length (h ∷ k ∷ hs)) (λ _. omega arith) (λ _. omega (arith, nearest_in t k hs))
