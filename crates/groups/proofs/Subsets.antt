-- With as many subsets as tuples no rule is shelved, and no subset has a pseudo-rule.
use Rattle.std.proofs.Common.{◌≡◌, ℕ, ◌+◌, ◌≤◌, false, eqb, List, [], ◌∷◌, ◌++◌, map, length, get_or, fold, sym, refl, ap, ◌∙◌, subst, arith}
use Rattle.std.specs.List.{AllByRecursion}
use Rattle.std.proofs.lemmas.Bool.{and_from, or_right, le-leb, eqb-true, cond-true}
use Rattle.std.proofs.ByRecursion.{all_kept_by, kept_by_passes, All-weaker, All-push}
use Rattle.levels.specs.Levels.{same}
use Rattle.groups.specs.Rules.{Nesting, Rule}
use Rattle.groups.specs.Tuples.{tuple, tuples, population, heads, subset, equal}
use Rattle.groups.specs.Keys.{keys, pseudo}
use Rattle.groups.specs.Taking.{Sorted, members, growth, sort_rule, most_keys}
use Rattle.groups.specs.Theorems.{Nests, Marks, EnoughSubsets}
use Rattle.groups.proofs.Tests.{Found, all_found, all_with, any_map, any_once}
use Rattle.groups.proofs.OneTuple.{same_itself, same_like, one_more, one_tuple_lem}
use Rattle.groups.proofs.Heads.{equal_is, equal_from, any_chosen, nearest_own}

module _ {P : ℕ → Type 0} (N : Nesting P) (L : Nests N) (rs : List (Rule P)) where
  -- a rule's patterns are marked
  marks : (q : Rule P) → Found rs q → Marks N rs q
  marks q f i =
      let s = same (N.within i) in
      any_once (s (q.at i)) s (λ x y a b. same_like N L i (q.at i) x y b a) (N.whole i ∷ map (λ r. r.at i) rs)
      (or_right _ _ (any_map (s (q.at i)) (λ r. r.at i) rs ∙ f (λ r. s (q.at i) (r.at i)) (same_itself N L i (q.at i))))

  own_head : (g : ℕ) → length (tuples N rs) ≤ g → (q : Rule P) → Found rs q → get_or (heads N rs g) (subset N rs g q) [] ≡ tuple N rs q
  own_head g l q f =
      let t = tuple N rs q in
      nearest_own t (heads N rs g)
      (any_chosen (population N rs) (equal t) g (tuples N rs) l
      ∙ any_once (equal t) equal (λ x y e h. equal_from t x (equal_is t y h ∙ sym (equal_is x y e))) (map (tuple N rs) rs) (any_map (equal t) (tuple N rs) rs ∙ f (λ r. equal t (tuple N rs r)) (equal_from t t refl)))

  -- rules of a tuple t have no pseudo-rule
  alike_keys : (t : List ℕ) (qs : List (Rule P)) → AllByRecursion (Marks N rs) qs → AllByRecursion (λ q. tuple N rs q ≡ t) qs → AllByRecursion (λ k. pseudo N qs k ≡ false) (keys N qs)
  alike_keys t [] m e = tt
  alike_keys t (q ∷ qs) m e = one_tuple_lem N L rs (q ∷ qs) q m (All-weaker _ (λ p. tuple N rs p ≡ tuple N rs q) (λ p f. f ∙ sym e.0) (q ∷ qs) e)

  -- each rule's subset is that of its own tuple
  module _ (sub : Rule P → ℕ) (hs : List (List ℕ)) where
    abbrev Good : Rule P → Type 0
    Good q = Marks N rs q × (get_or hs (sub q) [] ≡ tuple N rs q)

    -- the rules of subset s have one tuple
    alike : (s : ℕ) (qs : List (Rule P)) → AllByRecursion Good qs → AllByRecursion (λ q. tuple N rs q ≡ get_or hs s []) (members sub s qs)
    alike s qs a = all_with Good _ (λ q. tuple N rs q ≡ get_or hs s []) (λ q k e. sym k.1 ∙ ap (λ u. get_or hs u []) (eqb-true _ _ e)) _ (all_kept_by _ Good qs a) (kept_by_passes (λ q. eqb (sub q) s) qs)

    marked_members : (s : ℕ) (qs : List (Rule P)) → AllByRecursion Good qs → AllByRecursion (Marks N rs) (members sub s qs)
    marked_members s qs a = all_kept_by _ (Marks N rs) qs (All-weaker Good (Marks N rs) (λ q k. k.0) qs a)

    grows : (qs : List (Rule P)) (r : Rule P) → AllByRecursion Good qs → Good r → growth N sub qs r ≤ 1
    grows qs r a h =
        let m = members sub (sub r) qs in
        let few = one_more N L rs m r (marked_members (sub r) qs a) h.0 (All-weaker _ (λ q. tuple N rs q ≡ tuple N rs r) (λ q e. e ∙ h.1) m (alike (sub r) qs a)) in
        omega arith

    Kept : Sorted P → Type 0
    Kept s = (s.shelf ≡ []) × AllByRecursion Good s.taken

    keeps : (t : ℕ) → 1 ≤ t → (qs : List (Rule P)) (s : Sorted P) → AllByRecursion Good qs → s.total + length qs ≤ 256 → Kept s → Kept (fold (sort_rule N sub t) s qs)
    unfolding Kept
    keeps t one [] s a l k = k
    keeps t one (q ∷ qs) s a l k =
        let n = growth N sub s.taken q in
        let g : n ≤ 1 = grows s.taken q k.1 a.0 in
        let next : Sorted P = record { taken = s.taken ++ q ∷ []; total = s.total + n; shelf = s.shelf } in
        subst (λ u. Kept (fold (sort_rule N sub t) u qs)) (sym (cond-true _ next _ (and_from _ _ (le-leb n t (omega arith)) (le-leb (s.total + n) most_keys (omega arith)))))
        (keeps t one qs next a.1 (omega arith) (k.0, All-push Good s.taken q k.1 a.0))

pub enough_subsets_lem : {P : ℕ → Type 0} → EnoughSubsets P
unfolding Kept
enough_subsets_lem N L g t rs l one few =
    let sub = subset N rs g in
    let hs = heads N rs g in
    let kept = keeps N L rs sub hs t one rs (record { taken = []; total = 0; shelf = [] }) (All-weaker (Found rs) (Good N L rs sub hs) (λ q f. (marks N L rs q f, own_head N L rs g l q f)) rs (all_found rs)) (omega arith) (refl, tt) in
    record {
      no_shelf = kept.0;
      no_pseudo = λ s. alike_keys N L rs (get_or hs s []) _ (marked_members N L rs sub hs s _ kept.1) (alike N L rs sub hs s _ kept.1);
    }
