-- The prefixes around p by their lengths: of each length at most one.
use Rattle.std.proofs.Common.{◌≡◌, ℕ, zero, suc, ◌+◌, ◌-◌, ◌*◌, ◌/◌, ◌%◌, ◌^◌, ◌<◌, ◌≤◌, Bool, true, false, cond, ◌&&◌, ◌||◌, eqb, ltb, leb, List, [], ◌∷◌, ◌++◌, length, filter, sym, refl, ap, ◌∙◌, subst, ⊎_elim, arith}
use native.Mathlib.Nat.{zero-div}
use lib.Bits.{bit_or}
use lib.Count.{ones}
use Rattle.std.specs.List.{ContainsAt as Has}
use Rattle.std.proofs.lemmas.Nat.{one_shl, shl-shr, shr_split}
use Rattle.std.proofs.lemmas.Bool.{and_from, and_parts, and_left, and_right, cases_eq, eq-eqb, ne_eqb, eqb-true, le-leb, leb-true, lt-ltb, or_right, cond-true, cond-false}
use Rattle.std.proofs.lemmas.Bool.Decides.{same_from_decides}
use Rattle.fields.specs.Lists.{any}
use Rattle.fields.specs.Lengths.{first_bits}
use Rattle.fields.specs.Numbering.{itself}
use Rattle.fields.specs.Prefixes.{within}
use Rattle.fields.specs.PrefixLaws.{whole, low, tail, within_from, within_shorter, within_agrees, outermost, prefix_nest}
use Rattle.fields.specs.declared.prefix.Prefix.{Prefix}
use Rattle.levels.specs.Levels.{same, level, marked}
use Rattle.levels.specs.Maps.{bit, front_held, Maps}
use Rattle.levels.proofs.Bits.{set_same, set_other, ones_tally}
use Rattle.levels.proofs.Counts.{any_and, any_same, any_push, by_keys, everywhere, kept_same, or_false, tally, tally_first, tally_same}
use Rattle.levels.proofs.Counted.{around_count}
use Rattle.levels.proofs.Few.{same_is}

and_assoc : (a b c : Bool) → (a && b && c) ≡ (a && (b && c))
and_assoc true b c = refl
and_assoc false b c = refl

and_true : (a b : Bool) → b ≡ true → (a && b) ≡ a
and_true true b h = h
and_true false b h = refl

module _ {w s : ℕ} (p : Prefix w s) where
  -- q has the length n, and p lies within it
  abbrev pub layer : ℕ → Prefix w s → Bool
  layer n q = within w s p q && eqb q.length n

  -- q is the first n bits of p
  abbrev front : ℕ → Prefix w s → Bool
  front n q = eqb q.length n && eqb q.number (first_bits w n p.number * 2 ^ (w - n))

  front_layer : (n : ℕ) (q : Prefix w s) → (leb n p.length && front n q) ≡ layer n q
  front_layer n q = same_from_decides {P = (q.length ≡ n) × (within w s p q ≡ true)} _ _ (from, to) ((λ h. (eqb-true _ _ (and_parts (within w s p q) _ h).1, (and_parts _ _ h).0)), (λ h. and_from _ _ h.1 (eq-eqb _ _ h.0)))
    where
      from : (leb n p.length && front n q) ≡ true → (q.length ≡ n) × (within w s p q ≡ true)
      from h =
          let l = leb-true n p.length (and_parts _ _ h).0 in
          let f = and_parts (eqb q.length n) _ (and_parts (leb n p.length) _ h).1 in
          let e = eqb-true q.length n f.0 in
          let agree : first_bits w n p.number ≡ first_bits w n q.number = sym (ap (λ (x : ℕ). x / 2 ^ (w - n)) (eqb-true _ _ f.1) ∙ shl-shr (first_bits w n p.number) (w - n)) in
          (e, within_from p q (omega arith) (subst (λ (k : ℕ). first_bits w k p.number ≡ first_bits w k q.number) (sym e) agree))

      to : (q.length ≡ n) × (within w s p q ≡ true) → (leb n p.length && front n q) ≡ true
      to h =
          let l = within_shorter p q h.1 in
          let k = ap (λ (x : ℕ). x * 2 ^ (w - q.length)) (within_agrees p q h.1) in
          let e : q.number ≡ first_bits w q.length p.number * 2 ^ (w - q.length) = omega (arith, shr_split q.number (w - q.length), tail q) in
          and_from _ _ (le-leb n p.length (omega (arith, h.0))) (and_from _ _ (eq-eqb _ _ h.0) (eq-eqb _ _ (subst (λ (m : ℕ). q.number ≡ first_bits w m p.number * 2 ^ (w - m)) h.0 e)))

  -- bit n of the map is set exactly if there is a prefix of the length n around p
  abbrev pub Layered : List (Prefix w s) → ℕ → Type 0
  Layered qs m = (n : ℕ) → bit m n ≡ cond (leb 1 n && any (layer n) qs) 1 0

  layers : (qs : List (Prefix w s)) (n : ℕ) → (leb 1 n && leb n p.length && front_held w s qs p n) ≡ (leb 1 n && any (layer n) qs)
  layers qs n =
      and_assoc (leb 1 n) (leb n p.length) (front_held w s qs p n)
      ∙ ap (λ (b : Bool). leb 1 n && b) (sym (any_and (leb n p.length) (front n) qs) ∙ any_same _ (layer n) (front_layer n) qs)

  pub maps_from : (qs : List (Prefix w s)) (m : ℕ) → Layered qs m → Maps w s qs p m
  maps_from qs m h n = h n ∙ ap (λ (b : Bool). cond b 1 0) (sym (layers qs n))

  pub layered_from : (qs : List (Prefix w s)) (m : ℕ) → Maps w s qs p m → Layered qs m
  layered_from qs m h n = h n ∙ ap (λ (b : Bool). cond b 1 0) (layers qs n)

  pub layered_none : Layered [] 0
  layered_none n = ap (λ (x : ℕ). x % 2) (zero-div (2 ^ n)) ∙ sym (cond-false _ 1 0 (and_right (leb 1 n) _ refl))

  module _ (qs : List (Prefix w s)) (q : Prefix w s) (m : ℕ) (h : Layered qs m) where
    stays : (n : ℕ) → layer n q ≡ false → bit m n ≡ cond (leb 1 n && any (layer n) (qs ++ q ∷ [])) 1 0
    stays n f = h n ∙ ap (λ (b : Bool). cond (leb 1 n && b) 1 0) (sym (any_push (layer n) qs q ∙ or_false _ _ f))

    -- the bit of q's length b is set
    pub layered_sets : (b : ℕ) → b ≡ q.length → 0 < b → true ≡ within w s p q → Layered (qs ++ q ∷ []) (bit_or m ((1 * 2 ^ b) % 2 ^ 64))
    layered_sets b e l i n = subst (λ (k : ℕ). bit (bit_or m k) n ≡ cond (leb 1 n && any (layer n) (qs ++ q ∷ [])) 1 0) (sym (one_shl b 64 (omega (arith, low q)))) (⊎_elim
        (λ f. subst (λ (k : ℕ). bit (bit_or m (2 ^ b)) k ≡ 1) (sym f) (set_same m b)
        ∙ sym (cond-true _ 1 0 (and_from _ _ (le-leb 1 n (omega arith)) (any_push (layer n) qs q ∙ or_right _ _ (and_from _ _ (sym i) (eq-eqb _ _ (omega arith)))))))
        (λ ne. set_other m b n ne ∙ stays n (and_right (within w s p q) _ (ne_eqb _ _ (λ f. ne (omega arith)))))
        (cases_eq n b))

    pub layered_aside : false ≡ within w s p q → Layered (qs ++ q ∷ []) m
    layered_aside i n = stays n (and_left _ _ (sym i))

    pub layered_whole : (b : ℕ) → b ≡ q.length → b ≤ 0 → Layered (qs ++ q ∷ []) m
    layered_whole b e l zero = h zero
    layered_whole b e l (suc n) = stays (suc n) (and_right (within w s p q) _ (ne_eqb _ _ (λ f. omega arith)))

  -- of two prefixes around p that are equally long each lies within the other
  alike : (x y : Prefix w s) → within w s p x ≡ true → within w s p y ≡ true → x.length ≡ y.length → within w s x y ≡ true
  alike x y a b e = within_from x y (omega arith) (subst (λ (k : ℕ). first_bits w k x.number ≡ first_bits w k p.number) e (sym (within_agrees p x a)) ∙ within_agrees p y b)

  -- the marked prefixes around p, and p itself: as many as their lengths
  by_length : (qs : List (Prefix w s)) → length (filter (within w s p) (marked (within w s) (whole w s) qs)) ≡ tally (λ n. cond (any (layer n) (whole w s ∷ qs)) 1 0) 64
  by_length qs =
      let short : (q : Prefix w s) → (within w s p q && ltb q.length 64) ≡ within w s p q = λ q. and_true _ _ (lt-ltb q.length 64 (omega (arith, low q))) in
      let all = marked (within w s) (whole w s) qs in
      sym (ap length (kept_same (λ q. within w s p q && ltb q.length 64) (within w s p) all (everywhere _ short all)))
      ∙ by_keys (same (within w s)) (same_is (prefix_nest w s itself)) (within w s p) (λ q. q.length) (λ x y a b e. and_from _ _ (alike x y a b e) (alike y x b a (sym e))) (whole w s ∷ qs) 64

  whole_layer : layer 0 (whole w s) ≡ true
  unfolding whole
  whole_layer = and_from _ _ (outermost w s p) refl

  whole_short : (n : ℕ) → layer (suc n) (whole w s) ≡ false
  unfolding whole
  whole_short n = and_right (within w s p (whole w s)) _ (ne_eqb 0 (suc n) (λ e. omega arith))

  pub layered_level : (qs : List (Prefix w s)) (m : ℕ) → Layered qs m → m < 2 ^ 64 → Has qs p → ones m ≡ level (within w s) (whole w s) qs p
  layered_level qs m h l k =
      let f : ℕ → ℕ = λ n. cond (leb 1 n && any (layer n) qs) 1 0 in
      let g : ℕ → ℕ = λ n. cond (any (layer n) (whole w s ∷ qs)) 1 0 in
      let longer : (n : ℕ) → g (suc n) ≡ f (suc n) = λ n. ap (λ (b : Bool). cond (b || any (layer (suc n)) qs) 1 0) (whole_short n) ∙ ap (λ (b : Bool). cond (b && any (layer (suc n)) qs) 1 0) (sym (le-leb 1 (suc n) (omega arith))) in
      let first : tally g 64 ≡ tally f 64 + 1 = tally_first f g (ap (λ (b : Bool). cond (b || any (layer 0) qs) 1 0) whole_layer) longer 63 in
      omega (arith, ones_tally 64 m l, tally_same (bit m) f h 64, by_length qs, around_count (prefix_nest w s itself) p qs k)
