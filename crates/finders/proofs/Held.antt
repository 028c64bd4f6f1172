-- Patterns that are held one after another, each once.
use Rattle.std.proofs.Common.{◌≡◌, ℕ, ◌<◌, Bool, true, false, cond, not, ◌||◌, ltb, ◌+◌, ◌⊎◌, List, [], ◌∷◌, ◌++◌, length, is_some, Some, None, fold, filter, Option, sym, refl, ap, ◌∙◌, subst, subst₂, inl, inr, arith}
use mathlib.Core.Bool.{false≢true}
use Rattle.std.proofs.ByRecursion.{All-get_or}
use Rattle.std.proofs.lemmas.List.{append-nil, append_assoc, length_push, get_or_append_left, get_or_push}
use Rattle.std.proofs.lemmas.Bool.{and_from, not-false, both_ways, cases_lt}
use Rattle.std.proofs.lemmas.Bool.Decides.{nat_tests}
use Rattle.std.specs.List.{position, position_or_len}
use Rattle.fields.specs.Lists.{any, once}
use Rattle.fields.specs.Nest.{Nest}
use Rattle.levels.specs.Levels.{same, marked}
use Rattle.levels.proofs.Counts.{any_same, once_push}
use Rattle.levels.proofs.Few.{same_is, same_from}
use Rattle.finders.specs.Finding.{known}
use Rattle.finders.specs.Labels.{pattern_at, Distinct}
use Rattle.finders.proofs.Labels.{iff}
use Rattle.finders.proofs.Placed.{Placed, placed}

module _ {X : Type 0} (t : X → Bool) where
  -- a place is found exactly if one passes
  found_any : (xs : List X) → is_some (position t xs) ≡ any t xs
  found_any [] = refl
  found_any (x ∷ xs) = go (t x) (found_any xs)
    where
      go : (b : Bool) → is_some (position t xs) ≡ any t xs → is_some (cond (ltb (cond (not b) (1 + position_or_len t xs) 0) (length (x ∷ xs))) (Some (cond (not b) (1 + position_or_len t xs) 0)) None) ≡ (b || any t xs)
      go true h = grind (arith, nat_tests)
      go false h = grind (arith, nat_tests)

  -- what is left out does not pass
  any_left : (q : X → Bool) → ((x : X) → q x ≡ false → t x ≡ false) → (xs : List X) → any t (filter q xs) ≡ any t xs
  any_left q h [] = refl
  any_left q h (x ∷ xs) = go (q x) refl (any_left q h xs)
    where
      go : (b : Bool) → q x ≡ b → any t (filter q xs) ≡ any t xs → any t (cond b (x ∷ filter q xs) (filter q xs)) ≡ (t x || any t xs)
      go true e ih = ap (λ b. t x || b) ih
      go false e ih = ih ∙ sym (ap (λ b. b || any t xs) (h x e))

  any_once : (eq : X → X → Bool) → ((x y : X) → eq x y ≡ true → x ≡ y) → (xs : List X) → any t (once eq xs) ≡ any t xs
  any_once eq is [] = refl
  any_once eq is (x ∷ xs) = go (t x) refl (any_once eq is xs)
    where
      go : (b : Bool) → t x ≡ b → any t (once eq xs) ≡ any t xs → (b || any t (filter (λ y. not (eq x y)) (once eq xs))) ≡ (b || any t xs)
      go true e ih = refl
      go false e ih = any_left (λ y. not (eq x y)) (λ y h. ap t (sym (is x y (not-false _ h))) ∙ e) (once eq xs) ∙ ih

module _ {P V : Type 0} (N : Nest P V) where
  -- what is held with one pattern more
  abbrev pub with_pattern : List P → P → List P
  with_pattern held p = cond (is_some (known N held p)) held (held ++ (p ∷ []))

  with_once : (xs : List P) (p : P) → with_pattern (once (same N.within) xs) p ≡ once (same N.within) (xs ++ p ∷ [])
  with_once xs p =
      let s = same N.within in
      let flip : (z : P) → s p z ≡ s z p = λ z. iff _ _ (λ h. same_from N z p (sym (same_is N p z h))) (λ h. same_from N p z (sym (same_is N z p h))) in
      ap (λ b. cond b (once s xs) (once s xs ++ p ∷ [])) (found_any (s p) (once s xs) ∙ any_once (s p) s (same_is N) xs ∙ any_same (s p) (λ z. s z p) flip xs)
      ∙ go (any (λ z. s z p) xs) (once s xs)
      ∙ sym (once_push s xs p)
    where
      go : (b : Bool) (l : List P) → cond b l (l ++ p ∷ []) ≡ l ++ cond b [] (p ∷ [])
      go true l = sym (append-nil l)
      go false l = refl

  folded_once : (ps xs : List P) → fold with_pattern (once (same N.within) xs) ps ≡ once (same N.within) (xs ++ ps)
  folded_once [] xs = ap (once (same N.within)) (sym (append-nil xs))
  folded_once (p ∷ ps) xs =
      ap (λ l. fold with_pattern l ps) (with_once xs p) ∙ folded_once ps (xs ++ p ∷ []) ∙ ap (once (same N.within)) (append_assoc xs (p ∷ []) ps)

  -- from the whole pattern on, these are the marked ones
  pub held_marked : (ps : List P) → fold with_pattern (N.whole ∷ []) ps ≡ marked N.within N.whole ps
  held_marked ps = folded_once ps (N.whole ∷ [])

  -- a new pattern stands behind what was held
  spot : (held : List P) (p : P) (a : ℕ) → a < length (held ++ p ∷ []) → ((a < length held) × (pattern_at N (held ++ p ∷ []) a ≡ pattern_at N held a)) ⊎ ((a ≡ length held) × (pattern_at N (held ++ p ∷ []) a ≡ p))
  spot held p a l = elim (cases_lt a (length held)) [
    | inl m ↦ inl (m, get_or_append_left held (p ∷ []) N.whole a m)
    | inr m ↦ let e : a ≡ length held = omega (arith, length_push held p) in inr (e, get_or_push held p N.whole a (sym e))
  ]

  -- nothing is held twice
  pub distinct_with : (held : List P) (p : P) → Distinct N held → Distinct N (with_pattern held p)
  distinct_with held p d = go (known N held p) (placed (same N.within p) N.whole held)
    where
      go : (o : Option ℕ) → Placed (same N.within p) N.whole held o → Distinct N (cond (is_some o) held (held ++ p ∷ []))
      go (Some k) h = d
      go None h = λ a b l m u v.
          let new : (c : ℕ) → c < length held → same N.within p (pattern_at N held c) ≡ true → ⊥ = λ c n. both_ways _ (All-get_or _ held c N.whole n h) in
          let W : P → P → Type 0 = λ x y. N.within x y ≡ true in
          elim (spot held p a l) [
            | inl x ↦ elim (spot held p b m) [
              | inl y ↦ d a b x.0 y.0 (subst₂ W x.1 y.1 u) (subst₂ W y.1 x.1 v)
              | inr y ↦ absurd (new a x.0 (and_from _ _ (subst₂ W y.1 x.1 v) (subst₂ W x.1 y.1 u)))
            ]
            | inr x ↦ elim (spot held p b m) [
              | inl y ↦ absurd (new b y.0 (and_from _ _ (subst₂ W x.1 y.1 u) (subst₂ W y.1 x.1 v)))
              | inr y ↦ x.0 ∙ sym y.0
            ]
          ]

  pub distinct_folded : (ps held : List P) → Distinct N held → Distinct N (fold with_pattern held ps)
  distinct_folded [] held d = d
  distinct_folded (p ∷ ps) held d = distinct_folded ps (with_pattern held p) (distinct_with held p d)

  pub marked_distinct : (ps : List P) → Distinct N (marked N.within N.whole ps)
  marked_distinct ps = subst (Distinct N) (held_marked ps) (distinct_folded ps (N.whole ∷ []) (λ a b l m u v. omega arith))

  -- the label of a pattern that is held is its place
  pub known_held : (held : List P) (p : P) → any (same N.within p) held ≡ true → (l : ℕ) × (known N held p ≡ Some l) × (l < length held) × (pattern_at N held l ≡ p)
  known_held held p h = go (known N held p) (placed (same N.within p) N.whole held) (found_any (same N.within p) held ∙ h)
    where
      go : (o : Option ℕ) → Placed (same N.within p) N.whole held o → is_some o ≡ true → (l : ℕ) × (o ≡ Some l) × (l < length held) × (pattern_at N held l ≡ p)
      go None f e = absurd (false≢true e)
      go (Some k) f e = (k, refl, f.0, sym (same_is N p _ f.1))

  pub known_marked : (ps : List P) (p : P) → any (same N.within p) (N.whole ∷ ps) ≡ true →
      (l : ℕ) × (known N (marked N.within N.whole ps) p ≡ Some l) × (l < length (marked N.within N.whole ps)) × (pattern_at N (marked N.within N.whole ps) l ≡ p)
  known_marked ps p h = known_held (marked N.within N.whole ps) p (any_once (same N.within p) (same N.within) (same_is N) (N.whole ∷ ps) ∙ h)
