-- Each element of a list counted once, from element to element.
use Rattle.std.proofs.Common.{◌≡◌, ℕ, zero, suc, ◌+◌, ◌<◌, ◌≤◌, Bool, true, false, cond, not, List, [], ◌∷◌, ◌++◌, map, length, get_or, set, filter, sym, refl, ap, ◌∙◌, subst, ap₂, arith}
use lib.Seq.{map-set_same}
use Rattle.std.specs.List.{AllByRecursion}
use Rattle.std.proofs.ByRecursion.{All-get_or, All-map, All-weaker}
use Rattle.std.proofs.lemmas.List.{append-nil, get_or-map, length-map, map-set, map_push}
use Rattle.std.proofs.lemmas.List.Sums.{length-filter, sum_by_push, count_by-le-length}
use Rattle.std.proofs.lemmas.Bool.{both_ways}
use Rattle.fields.specs.Lists.{any, once}
use Rattle.levels.proofs.Counts.{everywhere, kept_all, kept_none, kept_same, kept_once_push}
use Rattle.groups.proofs.Apart.{Apart, apart_once}
use Rattle.groups.proofs.Tests.{Found, all_found, all_once, any_once, any_out, false_from}

pub map_same : {X Y : Type 0} (f g : X → Y) (xs : List X) → AllByRecursion (λ x. f x ≡ g x) xs → map f xs ≡ map g xs
map_same f g [] h = refl
map_same f g (x ∷ xs) h = ap₂ ◌∷◌ h.0 (map_same f g xs h.1)

pub kept_few : {X : Type 0} (p : X → Bool) (xs : List X) → length (filter p xs) ≤ length xs
kept_few p xs = omega (arith, length-filter p xs, count_by-le-length p xs)

pub once_few : {X : Type 0} (eq : X → X → Bool) (xs : List X) → length (once eq xs) ≤ length xs
once_few eq [] = omega arith
once_few eq (x ∷ xs) = omega (arith, kept_few (λ y. not (eq x y)) (once eq xs), once_few eq xs)

module _ {X : Type 0} (eq : X → X → Bool) where
  -- how often an element stands in a list
  abbrev pub often : List X → X → ℕ
  often ts u = length (filter (eq u) ts)

  often_push : (ts : List X) (t u : X) → often (ts ++ t ∷ []) u ≡ often ts u + cond (eq u t) 1 0
  often_push ts t u = length-filter (eq u) (ts ++ t ∷ []) ∙ sum_by_push (λ y. cond (eq u y) 1 0) ts t ∙ ap (λ (n : ℕ). n + cond (eq u t) 1 0) (sym (length-filter (eq u) ts))

  once_push : (ts : List X) (t : X) (b : Bool) → any (λ z. eq z t) ts ≡ b → once eq (ts ++ t ∷ []) ≡ once eq ts ++ cond (not b) (t ∷ []) []
  once_push ts t b e =
      let whole : (us : List X) → filter (λ _. true) us ≡ us = λ us. kept_all _ us (everywhere _ (λ _. refl) us) in
      sym (whole _) ∙ kept_once_push eq (λ _. true) ts t ∙ ap₂ (λ us a. us ++ cond (not a) (t ∷ []) []) (whole _) e

-- one more element t; eq tells which are the same
module _ {X : Type 0} (eq : X → X → Bool) (is : (x y : X) → eq x y ≡ true → x ≡ y) (from : (x y : X) → x ≡ y → eq x y ≡ true) (ts : List X) (t : X) where
  other : (x y : X) → eq x y ≡ false → eq y x ≡ false
  other x y n = false_from (eq y x) (λ e. both_ways _ n (from x y (sym (is y x e))))

  often_other : (u : X) → eq t u ≡ false → often eq (ts ++ t ∷ []) u ≡ often eq ts u
  often_other u n = omega (arith, often_push eq ts t u, ap (λ b. cond {A = ℕ} b 1 0) (other t u n))

  often_itself : often eq (ts ++ t ∷ []) t ≡ often eq ts t + 1
  often_itself = omega (arith, often_push eq ts t t, ap (λ b. cond {A = ℕ} b 1 0) (from t t refl))

  often_others : (us : List X) → AllByRecursion (λ u. eq t u ≡ false) us → map (often eq (ts ++ t ∷ [])) us ≡ map (often eq ts) us
  often_others us a = map_same _ _ us (All-weaker _ _ often_other us a)

  often_raised : (us : List X) (i : ℕ) → Apart eq us → i < length us → get_or us i t ≡ t → map (often eq (ts ++ t ∷ [])) us ≡ set (map (often eq ts) us) i (often eq ts t + 1)
  often_raised [] i a l e = absurd (omega arith)
  often_raised (u ∷ us) zero a l e = ap₂ ◌∷◌ (ap (often eq (ts ++ t ∷ [])) e ∙ often_itself) (often_others us (subst (λ z. AllByRecursion (λ y. eq z y ≡ false) us) e a.0))
  often_raised (u ∷ us) (suc i) a l e =
      let m : i < length us = omega arith in
      ap₂ ◌∷◌ (often_other u (other u t (subst (λ z. eq u z ≡ false) e (All-get_or _ us i t m a.0)))) (often_raised us i a.1 m e)

  -- cs has the elements of ts, each once, with how often each stands there
  module _ {C : Type 0} (key : C → X) (count : C → ℕ) (cs : List C) (keys : map key cs ≡ once eq ts) (counts : map count cs ≡ map (often eq ts) (once eq ts)) where
    -- the element is counted at place i
    module _ (i : ℕ) (c d : C) (l : i < length cs) (same : eq t (key d) ≡ true) (at : d ≡ get_or cs i d) where
      within : i < length (once eq ts)
      within = omega (arith, length-map cs key, ap length keys)

      here : (e : X) → get_or (once eq ts) i e ≡ t
      here e = ap (λ us. get_or us i e) (sym keys) ∙ get_or-map key cs i d e l ∙ ap key (sym at) ∙ sym (is t (key d) same)

      count_is : count d ≡ often eq ts t
      count_is = ap count at ∙ sym (get_or-map count cs i d 0 l) ∙ ap (λ (ns : List ℕ). get_or ns i 0) counts ∙ get_or-map (often eq ts) (once eq ts) i t 0 within ∙ ap (often eq ts) (here t)

      met : once eq (ts ++ t ∷ []) ≡ once eq ts
      met =
          let found = All-get_or (Found ts) (once eq ts) i t within (all_once (Found ts) eq ts (all_found ts)) in
          once_push eq ts t true (found (λ z. eq z t) (from _ t (here t))) ∙ append-nil (once eq ts)

      pub raised : key c ≡ key d → (count d ≤ length ts → count c ≡ count d + 1) → (map key (set cs i c) ≡ once eq (ts ++ t ∷ [])) × (map count (set cs i c) ≡ map (often eq (ts ++ t ∷ [])) (once eq (ts ++ t ∷ [])))
      raised kept more = (
        map-set_same key cs i c d (kept ∙ ap key at) ∙ keys ∙ sym met,
        map-set count cs i c
            ∙ ap₂ (λ (ns : List ℕ) (n : ℕ). set ns i n) counts (more (omega (arith, count_is, kept_few (eq t) ts)) ∙ ap (λ (n : ℕ). n + 1) count_is)
            ∙ sym (often_raised (once eq ts) i (apart_once eq ts) within (here t))
            ∙ ap (map (often eq (ts ++ t ∷ []))) (sym met),
      )

    -- the element is not counted yet
    module _ (c : C) (none : AllByRecursion (λ d. eq t (key d) ≡ false) cs) (new : key c ≡ t) (one : count c ≡ 1) where
      unmet : AllByRecursion (λ u. eq t u ≡ false) (once eq ts)
      unmet = subst (AllByRecursion (λ u. eq t u ≡ false)) keys (All-map _ key cs none)

      nowhere : any (λ z. eq z t) ts ≡ false
      nowhere = false_from _ (λ h. any_out _ (λ z. eq z t) ⊥ (λ u n e. both_ways _ (other t u n) e) (once eq ts) unmet (any_once (λ z. eq z t) eq (λ x y a b. from x t (is x y a ∙ is y t b)) ts h))

      last : once eq (ts ++ t ∷ []) ≡ once eq ts ++ t ∷ []
      last = once_push eq ts t false nowhere

      never : often eq ts t ≡ 0
      never =
          let apart = All-weaker (Found ts) (λ z. eq t z ≡ false) (λ z f. other z t (false_from (eq z t) (λ e. both_ways _ nowhere (f (λ y. eq y t) e)))) ts (all_found ts) in
          ap length (kept_same (eq t) (λ _. false) ts apart ∙ kept_none (λ _. false) (λ _. refl) ts)

      pub added : (map key (cs ++ c ∷ []) ≡ once eq (ts ++ t ∷ [])) × (map count (cs ++ c ∷ []) ≡ map (often eq (ts ++ t ∷ [])) (once eq (ts ++ t ∷ [])))
      added = (
        map_push key cs c ∙ ap₂ (λ us u. us ++ u ∷ []) keys new ∙ sym last,
        map_push count cs c
            ∙ ap₂ (λ (ns : List ℕ) (n : ℕ). ns ++ n ∷ []) (counts ∙ sym (often_others (once eq ts) unmet)) (omega (arith, one, never, often_itself))
            ∙ sym (map_push (often eq (ts ++ t ∷ [])) (once eq ts) t)
            ∙ ap (map (often eq (ts ++ t ∷ []))) (sym last),
      )
