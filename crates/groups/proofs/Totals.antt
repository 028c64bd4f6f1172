-- All keys together are those of the subsets.
use Rattle.std.proofs.Common.{◌≡◌, ℕ, zero, suc, ◌+◌, ◌<◌, ◌≤◌, Bool, true, false, cond, ◌&&◌, eqb, leb, List, [], ◌∷◌, ◌++◌, map, length, fold, sym, refl, ap, ◌∙◌, ap₂, inl, inr, arith}
use mathlib.Core.Bool.{false≢true}
use Rattle.std.specs.List.{range_with_len, flat_map, AllByRecursion}
use Rattle.std.proofs.lemmas.Bool.{and_parts, or_left, cases_eq, ne_eqb, eq-eqb, cond_both}
use Rattle.std.proofs.lemmas.List.{length-append, append-nil}
use Rattle.std.proofs.lemmas.List.Elements.{filter-append}
use Rattle.std.proofs.ByRecursion.{all_kept_by, kept_by_passes, All-map, All-weaker}
use Rattle.fields.specs.Lists.{any}
use Rattle.levels.specs.Levels.{same}
use Rattle.groups.specs.Rules.{Nesting, Rule}
use Rattle.groups.specs.Tuples.{tuple, heads, subset}
use Rattle.groups.specs.Keys.{Combination, used, lies, keys, same_key}
use Rattle.groups.specs.Taking.{Sorted, members, growth, sort_rule, most_keys}
use Rattle.groups.specs.Theorems.{Nests, TotalCounts}
use Rattle.groups.proofs.Tests.{Found, all_found, all_with, all_once, any_weaker, any_append, any_kept, any_once, any_map}
use Rattle.groups.proofs.Apart.{pigeons}
use Rattle.groups.proofs.Combinations.{Places, all_combinations, any_along, holds_true, along_trans}
use Rattle.groups.proofs.OneTuple.{same_itself, same_like, key_like, apart_keys}
use Rattle.groups.proofs.Heads.{nearest_in}

-- ---- lists that differ at one place
module _ {X : Type 0} (F G : ℕ → List X) (j : ℕ) (else : (u : ℕ) → (u ≡ j → ⊥) → G u ≡ F u) where
  joined_past : (n i : ℕ) → j < i → flat_map G (range_with_len i n) ≡ flat_map F (range_with_len i n)
  joined_past zero i l = refl
  joined_past (suc n) i l = ap₂ ◌++◌ (else i (λ e. omega arith)) (joined_past n (i + 1) (omega arith))

  joined_at : (n i : ℕ) → i ≤ j → j < i + n → length (flat_map G (range_with_len i n)) + length (F j) ≡ length (flat_map F (range_with_len i n)) + length (G j)
  joined_at zero i l m = absurd (omega arith)
  joined_at (suc n) i l m =
      let rest : (K : ℕ → List X) → List X = λ K. flat_map K (range_with_len (i + 1) n) in
      elim (cases_eq i j) [
        | inl e ↦ omega (arith, length-append (F i) (rest F), length-append (G i) (rest G), ap length (joined_past n (i + 1) (omega arith)), ap (λ u. length (F u)) e, ap (λ u. length (G u)) e)
        | inr d ↦ omega (arith, length-append (F i) (rest F), length-append (G i) (rest G), ap length (else i d), joined_at n (i + 1) (omega (arith, past d)) (omega arith))
      ]
    where
      past : (i ≡ j → ⊥) → i < j
      past d = omega arith

joined_none : {X : Type 0} (is : List ℕ) → ◌≡◌ {A = List X} (flat_map (λ (s : ℕ). []) is) []
joined_none [] = refl
joined_none (i ∷ is) = joined_none is

module _ {P : ℕ → Type 0} (N : Nesting P) (L : Nests N) where
  subset_in : (rs : List (Rule P)) (g : ℕ) (q : Rule P) → 1 ≤ g → Found rs q → subset N rs g q < length (heads N rs g)
  subset_in rs zero q l f = absurd (omega arith)
  subset_in [] (suc g) q l f = absurd (false≢true (f (λ _. true) refl))
  subset_in (r ∷ rs) (suc g) q l f = nearest_in (tuple N (r ∷ rs) q) _ _

  used_more : (rs : List (Rule P)) (r : Rule P) (i : ℕ) → AllByRecursion (λ p. any (same (N.within i) p) (used N i (rs ++ r ∷ [])) ≡ true) (used N i rs)
  used_more rs r i =
      let s = same (N.within i) in
      let more = rs ++ r ∷ [] in
      all_once _ s _ (All-map _ (λ q. q.at i) rs (All-weaker (Found rs) (λ q. any (s (q.at i)) (used N i more) ≡ true)
      (λ q f. any_once (s (q.at i)) s (λ x y a b. same_like N L i (q.at i) x y b a) (map (λ p. p.at i) more)
      (any_map (s (q.at i)) (λ p. p.at i) more ∙ any_append (λ p. s (q.at i) (p.at i)) rs (r ∷ []) ∙ or_left _ _ (f (λ p. s (q.at i) (p.at i)) (same_itself N L i (q.at i))))) rs (all_found rs)))

  -- no key is lost by taking a rule
  keys_grow : (rs : List (Rule P)) (r : Rule P) → length (keys N rs) ≤ length (keys N (rs ++ r ∷ []))
  keys_grow rs r =
      let s : (i : ℕ) → P i → P i → Bool = λ i. same (N.within i) in
      let f : (i : ℕ) → List (P i) = λ i. used N i (rs ++ r ∷ []) in
      let G : (i : ℕ) → P i → Type 0 = λ i p. any (s i p) (f i) ≡ true in
      pigeons (same_key N) (key_like N L) (keys N rs) (keys N (rs ++ r ∷ [])) (apart_keys N L rs)
      (all_with (Places G 0 5) (λ k. any (lies N k) rs ≡ true) _
      (λ k a h. any_kept (same_key N k) _
      (λ l e. any_append (lies N l) rs (r ∷ []) ∙ or_left _ _
      (any_weaker (lies N k) (lies N l) (λ q m. along_trans (λ i x y. s i y x) N.within N.within (λ i x y z b. L.trans i x y z (and_parts (N.within i y x) _ b).1) 5 0 l k _ e m) rs h))
      _ (any_along s f 5 0 k ∙ holds_true (λ i p. any (s i p) (f i)) 5 0 k a))
      (keys N rs) (all_kept_by _ (Places G 0 5) _ (all_combinations G (λ i. used N i rs) 5 0 (λ i _. used_more rs r i))) (kept_by_passes (λ k. any (lies N k) rs) _))

  module _ (sub : Rule P → ℕ) (t n : ℕ) where
    abbrev parts : List (Rule P) → ℕ → List (Combination P 0 5)
    parts qs u = keys N (members sub u qs)

    members_push : (qs : List (Rule P)) (q : Rule P) (u : ℕ) (b : Bool) → eqb (sub q) u ≡ b → members sub u (qs ++ q ∷ []) ≡ members sub u qs ++ cond b (q ∷ []) []
    members_push qs q u b e = filter-append (λ r. eqb (sub r) u) qs (q ∷ []) ∙ ap (λ c. members sub u qs ++ cond c (q ∷ []) []) e

    Counted : Sorted P → Type 0
    Counted s = s.total ≡ length (flat_map (parts s.taken) (range_with_len 0 n))

    counted_step : (s : Sorted P) (q : Rule P) → sub q < n → Counted s → Counted (sort_rule N sub t s q)
    unfolding Counted
    counted_step s q l c =
        let old = s.taken in
        let more = growth N sub old q in
        let else : (u : ℕ) → (u ≡ sub q → ⊥) → parts (old ++ q ∷ []) u ≡ parts old u = λ u d. ap (keys N) (members_push old q u false (ne_eqb (sub q) u (λ e. d (sym e))) ∙ append-nil (members sub u old)) in
        let here = ap (λ m. length (keys N m)) (members_push old q (sub q) true (eq-eqb (sub q) (sub q) refl)) in
        cond_both (leb more t && leb (s.total + more) most_keys) _ _ Counted
        (λ _. omega (arith, joined_at (parts old) (parts (old ++ q ∷ [])) (sub q) else n 0 (omega arith) (omega arith), here, keys_grow (members sub (sub q) old) q)) (λ _. c)

    counted : (qs : List (Rule P)) (s : Sorted P) → AllByRecursion (λ q. sub q < n) qs → Counted s → Counted (fold (sort_rule N sub t) s qs)
    counted [] s a c = c
    counted (q ∷ qs) s a c = counted qs (sort_rule N sub t s q) a.1 (counted_step s q a.0 c)

pub total_counts_lem : {P : ℕ → Type 0} → TotalCounts P
unfolding Counted
total_counts_lem {P} N L g t rs one =
    let n = length (heads N rs g) in
    counted N L (subset N rs g) t n rs (record { taken = []; total = 0; shelf = [] }) (All-weaker (Found rs) _ (λ q f. subset_in N L rs g q one f) rs (all_found rs)) (sym (ap length (joined_none {X = Combination P 0 5} (range_with_len 0 n))))
