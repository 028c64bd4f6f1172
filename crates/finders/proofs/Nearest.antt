-- The nearest of the patterns that pass a test, where those that pass nest.
use Rattle.std.proofs.Common.{◌≡◌, ℕ, zero, suc, ◌+◌, ◌<◌, Bool, true, false, not, ◌&&◌, ◌||◌, List, [], ◌∷◌, length, get_or, Some, None, Option, IfSome, sym, refl, ap, ◌∙◌, subst, inl, inr, ⊎_elim, add-one, below_more, arith}
use Rattle.std.proofs.lemmas.Bool.{and_from, and_parts, and_left, and_right, or_left, or_right, or_from, not-true, not_from_true, not_from_false, both_ways, cases_Bool, cond_both, true_from_ne_false, false_from_ne_true}
use Rattle.std.proofs.lemmas.List.{get_or_default}
use Rattle.std.specs.List.{position, slice_get}
use Rattle.fields.specs.Lists.{all}
use Rattle.fields.specs.Nest.{Nest}
use Rattle.levels.specs.Levels.{around}
use Rattle.levels.proofs.Nearest.{chain}
use Rattle.finders.specs.Finding.{best_label, parent_of, parent_label}
use Rattle.finders.specs.Nearer.{nearer, innermost, Tells, Nested}
use Rattle.finders.proofs.Placed.{position_none, position_at}

module _ {X : Type 0} (t : X → Bool) (d : X) where
  -- every element passes
  all_from : (xs : List X) → ((j : ℕ) → j < length xs → t (get_or xs j d) ≡ true) → all t xs ≡ true
  all_from [] h = refl
  all_from (x ∷ xs) h = and_from (t x) _ (h 0 (omega arith)) (all_from xs (λ j l. h (suc j) (omega arith)))

  -- one does not
  all_not : (xs : List X) (k : ℕ) → k < length xs → t (get_or xs k d) ≡ false → all t xs ≡ false
  all_not [] k l e = absurd (omega arith)
  all_not (x ∷ xs) zero l e = and_left (t x) _ e
  all_not (x ∷ xs) (suc k) l e = and_right (t x) _ (all_not xs k (omega arith) e)

module _ {P V : Type 0} (N : Nest P V) (held : List P) (t : P → Bool) where
  -- of the first `upto` patterns, the one at k passes and lies within all that pass; what passes before it does not lie within it
  pub record Near (upto k : ℕ) : Type 0 where
    pub low : k < upto
    pub passes : t (get_or held k N.whole) ≡ true
    pub inner : (j : ℕ) → j < upto → t (get_or held j N.whole) ≡ true → N.within (get_or held k N.whole) (get_or held j N.whole) ≡ true
    pub first : (j : ℕ) → j < k → t (get_or held j N.whole) ≡ true → N.within (get_or held j N.whole) (get_or held k N.whole) ≡ false

  -- or none passes
  abbrev pub Nearest : ℕ → Option ℕ → Type 0
  Nearest upto None = (j : ℕ) → j < upto → t (get_or held j N.whole) ≡ false
  Nearest upto (Some k) = Near upto k

  -- the test of the definitions: p passes and lies within all that pass
  abbrev pub inmost : P → Bool
  inmost p = t p && all (λ q. not (t q) || N.within p q) held

  -- of all patterns, that is the first which lies within all that pass
  pub nearest_all : (n : ℕ) (o : Option ℕ) → length held ≡ n → Nearest n o → o ≡ position inmost held
  nearest_all n None e h = sym (position_none inmost N.whole held (λ j l. and_left _ _ (h j (omega arith))))
  nearest_all n (Some k) e h =
      let d = N.whole in
      let at = λ (j : ℕ). get_or held j d in
      let far = λ (j : ℕ) (q : P). not (t q) || N.within (at j) q in
      sym (position_at inmost d held k (omega (arith, h.low))
      (and_from _ _ h.passes (all_from (far k) d held (λ j l. ⊎_elim
      (λ (y : t (at j) ≡ true). or_right (not (t (at j))) _ (h.inner j (omega arith) y))
      (λ (y : t (at j) ≡ false). or_left _ _ (not_from_false _ y))
      (cases_Bool (t (at j))))))
      (λ j l. ⊎_elim
      (λ (y : t (at j) ≡ true). and_right (t (at j)) _ (all_not (far j) d held k (omega (arith, h.low)) (or_from _ _ (not_from_true _ h.passes) (h.first j l y))))
      (λ (y : t (at j) ≡ false). and_left _ _ y)
      (cases_Bool (t (at j)))))

  module _ (chained : Nested N t) where
    abbrev at : ℕ → P
    at j = get_or held j N.whole

    -- one pattern more, which passes
    pub nearest_takes : (n : ℕ) (o : Option ℕ) → Nearest n o → t (at n) ≡ true → Nearest (n + 1) (Some (nearer N held o n))
    nearest_takes n None h e = record {
      low = omega arith;
      passes = e;
      inner = below_more (λ j. t (at j) ≡ true → N.within (at n) (at j) ≡ true) n (λ j l p. absurd (both_ways _ (h j l) p)) (λ _. N.reflexive (at n));
      first = λ j l p. absurd (both_ways _ (h j l) p);
    }
    nearest_takes n (Some k) h e = cond_both (around N.within (at n) (at k)) n k (Near (n + 1))
        (λ a.
        let b = and_parts (N.within (at n) (at k)) _ a in
        record {
          low = omega arith;
          passes = e;
          inner = below_more (λ j. t (at j) ≡ true → N.within (at n) (at j) ≡ true) n (λ j l p. N.transitive _ _ _ b.0 (h.inner j l p)) (λ _. N.reflexive (at n));
          first = λ j l p. false_from_ne_true _ (λ w. both_ways _ (not-true _ b.1) (N.transitive _ _ _ (h.inner j l p) w));
        })
        (λ a.
        let w : N.within (at k) (at n) ≡ true = ⊎_elim (λ w. w) (λ v. true_from_ne_false _ (λ w. both_ways _ a (and_from _ _ v (not_from_false _ w)))) (chained (at k) (at n) h.passes e) in
        record {
          low = omega (arith, h.low);
          passes = h.passes;
          inner = below_more (λ j. t (at j) ≡ true → N.within (at k) (at j) ≡ true) n h.inner (λ _. w);
          first = h.first;
        })

    -- and one that does not
    pub nearest_passes : (n : ℕ) (o : Option ℕ) → Nearest n o → t (at n) ≡ false → Nearest (n + 1) o
    nearest_passes n None h e = below_more (λ j. t (at j) ≡ false) n h e
    nearest_passes n (Some k) h e = record {
      low = omega (arith, h.low);
      passes = h.passes;
      inner = below_more (λ j. t (at j) ≡ true → N.within (at k) (at j) ≡ true) n h.inner (λ p. absurd (both_ways _ e p));
      first = h.first;
    }

    -- of patterns that pass and nest one is the nearest, and it is what the definitions find
    some_nearest : (n : ℕ) → (o : Option ℕ) × Nearest n o
    some_nearest zero = (None, (λ j l. absurd (omega arith)))
    some_nearest (suc n) =
        let h = some_nearest n in
        rw (← add-one n) (elim (cases_Bool (t (at n))) [ inl e ↦ (Some (nearer N held h.0 n), nearest_takes n h.0 h.1 e) | inr e ↦ (h.0, nearest_passes n h.0 h.1 e) ])

    pub nearest_held : Nearest (length held) (position inmost held)
    nearest_held =
        let h = some_nearest (length held) in
        subst (Nearest (length held)) (nearest_all (length held) h.0 refl h.1) h.1

module _ {P V : Type 0} (N : Nest P V) (held : List P) where
  low_more : (n : ℕ) (o : Option ℕ) → IfSome o (λ k. k < n) → IfSome o (λ k. k < n + 1)
  low_more n None h = tt
  low_more n (Some k) h = omega (arith, h)

  nearer_low : (n : ℕ) (o : Option ℕ) → IfSome o (λ k. k < n) → nearer N held o n < n + 1
  nearer_low n None h = omega arith
  nearer_low n (Some k) h = cond_both (around N.within (get_or held n N.whole) (get_or held k N.whole)) n k (λ j. j < n + 1) (λ a. omega arith) (λ a. omega (arith, h))

  -- what the loop keeps of the first n patterns, for whatever the test tells
  pub record Going (test : P → Bool → Type 0) (n : ℕ) (o : Option ℕ) : Type 0 where
    pub low : IfSome o (λ k. k < n)
    pub near : (t : P → Bool) → Tells test t → Nested N t → Nearest N held t n o

  module _ (test : P → Bool → Type 0) (n : ℕ) (o : Option ℕ) where
    -- one pattern more, to which the test answers
    module _ (h : Going test n o) (p : P) (m : p ≡ get_or held n p) (l : n < length held) (b : Bool) (e : test p b) where
      told : (t : P → Bool) → Tells test t → t (get_or held n N.whole) ≡ b
      told t w = ap t (get_or_default held n N.whole p l ∙ sym m) ∙ sym (w p b e)

      pub going_takes : b ≡ true → (m : ℕ) → m ≡ nearer N held o n → (new : Option ℕ) → new ≡ Some m → Going test (n + 1) new
      going_takes y m e new f = subst (Going test (n + 1)) (sym (f ∙ ap Some e))
          (record { low = nearer_low n o h.low; near = λ t w c. nearest_takes N held t c n o (h.near t w c) (told t w ∙ y) })

      pub going_passes : b ≡ false → Going test (n + 1) o
      going_passes y = record { low = low_more n o h.low; near = λ t w c. nearest_passes N held t c n o (h.near t w c) (told t w ∙ y) }

    pub going_all : length held ≡ n → Going test n o → (t : P → Bool) → Tells test t → Nested N t → o ≡ innermost N held t
    going_all e h t w c = nearest_all N held t n o e (h.near t w c)

  -- patterns that match v nest, and so do those around p
  module _ (test : P → Bool → Type 0) (o : Option ℕ) (h : (t : P → Bool) → Tells test t → Nested N t → o ≡ innermost N held t) where
    pub best_found : (v : V) → Tells test (λ p. N.matches p v) → o ≡ best_label N held v
    best_found v w = h (λ p. N.matches p v) w (λ a b. N.nested a b v)

    pub parent_found : (l : ℕ) (p : P) → Tells test (around N.within p) → Some p ≡ slice_get held l → o ≡ parent_label N held l
    parent_found l p w e = h (around N.within p) w (chain N p) ∙ ap (parent_of N held) e

-- the nearest around the pattern of a label
pub parent_is : {P V : Type 0} (N : Nest P V) (held : List P) (l : ℕ) (p : P) (n : ℕ) (o : Option ℕ) → Some p ≡ slice_get held l → length held ≡ n → Nearest N held (around N.within p) n o → o ≡ parent_label N held l
parent_is N held l p n o e m h = nearest_all N held (around N.within p) n o m h ∙ ap (parent_of N held) e
