-- The nearest pattern around p, from pattern to pattern.
use Rattle.std.proofs.Common.{◌≡◌, Bool, true, false, cond, not, ◌&&◌, ◌⊎◌, List, [], ◌∷◌, ◌++◌, length, Decides, filter, sym, refl, ap, ◌∙◌, subst, ⊎_elim, arith}
use Rattle.std.specs.List.{ContainsAt as Has, AllByRecursion}
use Rattle.std.proofs.ByRecursion.{All-push, All-weaker, all-has, all_kept_by, has_push, has_append_left, kept_by_passes, Decides-by_and}
use Rattle.std.proofs.lemmas.Bool.{and_from, and_parts, and_right, not_from_true, not-false, both_ways}
use Rattle.std.proofs.lemmas.Bool.Decides.{same_from_decides, Decides-by_or}
use Rattle.fields.specs.Lists.{any, all, once}
use Rattle.fields.specs.Nest.{Nest}
use Rattle.levels.specs.Levels.{same, around, innermost, marked, nearest}
use Rattle.levels.proofs.Counts.{one_each, kept_none, kept_same, kept_twice, kept_has, any_kept}
use Rattle.levels.proofs.Few.{same_is, same_from}
use Rattle.levels.proofs.Counted.{rings}

module _ {X : Type 0} where
  all_once : (P : X → Type 0) (eq : X → X → Bool) (xs : List X) → AllByRecursion P xs → AllByRecursion P (once eq xs)
  all_once P eq [] h = tt
  all_once P eq (x ∷ xs) h = (h.0, all_kept_by _ P (once eq xs) (all_once P eq xs h.1))

  lone : (x : X) (xs : List X) → length xs ≡ 1 → AllByRecursion (λ y. x ≡ y) xs → xs ≡ x ∷ []
  lone x [] h a = absurd (omega arith)
  lone x (y ∷ []) h a = ap (λ z. z ∷ []) (sym a.0)
  lone x (y ∷ z ∷ zs) h a = absurd (omega arith)

module _ {P V : Type 0} (n : Nest P V) (p : P) where
  -- two patterns around p are nested
  pub chain : (a b : P) → around n.within p a ≡ true → around n.within p b ≡ true → (n.within a b ≡ true) ⊎ (n.within b a ≡ true)
  chain a b x y =
      let v = n.inhabited p in
      n.nested a b v.0 (n.wider p a v.0 (and_parts _ _ x).0 v.1) (n.wider p b v.0 (and_parts _ _ y).0 v.1)

  -- nothing lies around the whole pattern
  pub nearest_none : (w : P) → w ≡ n.whole → false ≡ around n.within p w → (ps : List P) → [] ≡ nearest n.within n.whole ps p
  nearest_none w e h ps =
      let inmost : n.within w p ≡ true = not-false _ (sym (ap (λ b. b && not (n.within w p)) (subst (λ q. n.within p q ≡ true) (sym e) (n.outermost p))) ∙ sym h) in
      let none : (q : P) → around n.within p q ≡ false = λ q. and_right (n.within p q) _ (not_from_true _ (n.transitive q n.whole p (n.outermost q) (subst (λ z. n.within z p ≡ true) e inmost))) in
      sym (ap (innermost n.within) (kept_none (around n.within p) none (marked n.within n.whole ps)))

  -- found lies around p and within each other pattern around p, of the whole one and ps
  pub record Nearest (ps : List P) (found : P) : Type 0 where
    pub outer : around n.within p found ≡ true
    pub held : Has (n.whole ∷ ps) found
    pub inner : AllByRecursion (λ q. around n.within p q ≡ true → n.within found q ≡ true) (n.whole ∷ ps)

  pub nearest_from : (w : P) → w ≡ n.whole → true ≡ around n.within p w → Nearest [] w
  nearest_from w e h = record { outer = sym h; held = subst (λ z. Has (z ∷ []) w) e (has_push [] w); inner = ((λ _. subst (λ z. n.within w z ≡ true) e (n.reflexive w)), tt) }

  module _ (ps : List P) (q found : P) (c : Nearest ps found) where
    pub nearest_takes : true ≡ around n.within p q → true ≡ n.within q found → Nearest (ps ++ q ∷ []) q
    nearest_takes a w = record {
      outer = sym a;
      held = has_push (n.whole ∷ ps) q;
      inner = All-push _ (n.whole ∷ ps) q (All-weaker _ (λ z. around n.within p z ≡ true → n.within q z ≡ true) (λ z h b. n.transitive q found z (sym w) (h b)) (n.whole ∷ ps) c.inner) (λ _. n.reflexive q);
    }

    keeps : (around n.within p q ≡ true → n.within found q ≡ true) → Nearest (ps ++ q ∷ []) found
    keeps h = record {
      outer = c.outer;
      held = has_append_left (n.whole ∷ ps) (q ∷ []) found c.held;
      inner = All-push _ (n.whole ∷ ps) q c.inner h;
    }

    pub nearest_aside : false ≡ around n.within p q → Nearest (ps ++ q ∷ []) found
    nearest_aside a = keeps (λ b. absurd (both_ways _ (sym a) b))

    pub nearest_wider : false ≡ n.within q found → Nearest (ps ++ q ∷ []) found
    nearest_wider h = keeps (λ a. ⊎_elim (λ w. w) (λ w. absurd (both_ways _ (sym h) w)) (chain found q c.outer a))

  module _ (ps : List P) (found : P) (c : Nearest ps found) where
    inside : AllByRecursion (λ q. n.within found q ≡ true) (rings n p ps)
    inside = kept_has (around n.within p) (λ q. n.within found q ≡ true) (marked n.within n.whole ps) (all_once _ (same n.within) (n.whole ∷ ps) c.inner)

    is_found : (q : P) → Decides (same n.within found q) (q ≡ found)
    is_found q = ((λ h. sym (same_is n found q h)), (λ e. same_from n found q (sym e)))

    -- of the patterns around p one is found
    one : length (filter (same n.within found) (rings n p ps)) ≡ 1
    one =
        let only : P → Bool = λ q. around n.within p q && same n.within found q in
        let known : (q : P) → Decides (only q) (q ≡ found) = λ q. ((λ h. (is_found q).0 (and_parts (around n.within p q) _ h).1), (λ e. subst (λ z. only z ≡ true) (sym e) (and_from _ _ c.outer ((is_found found).1 refl)))) in
        ap length (kept_twice (same n.within found) (around n.within p) (marked n.within n.whole ps))
        ∙ one_each (same n.within) (same_is n) only (λ x y a b. same_from n x y ((known x).0 a ∙ sym ((known y).0 b))) (n.whole ∷ ps)
        ∙ ap (λ b. cond b 1 0) ((Decides-by_or only (λ q. q ≡ found) (any only) known refl (λ _ _. refl) (n.whole ∷ ps)).1 c.held)

    here : Has (rings n p ps) found
    here = (Decides-by_or (same n.within found) (λ q. q ≡ found) (any (same n.within found)) is_found refl (λ _ _. refl) (rings n p ps)).0 (any_kept (same n.within found) (rings n p ps) one)

    -- what lies within all patterns around p is found
    test : (q : P) → n.within found q ≡ true → all (n.within q) (rings n p ps) ≡ same n.within found q
    test q w =
        let each = Decides-by_and (n.within q) (λ z. n.within q z ≡ true) (all (n.within q)) (λ z. ((λ h. h), (λ h. h))) refl (λ _ _. refl) (rings n p ps) in
        same_from_decides {P = n.within q found ≡ true} _ _
        ((λ h. all-has _ (rings n p ps) found (each.0 h) here), (λ h. each.1 (All-weaker _ (λ z. n.within q z ≡ true) (λ z k. n.transitive q found z h k) (rings n p ps) inside)))
        ((λ h. (and_parts (n.within found q) _ h).1), and_from _ _ w)

    pub nearest_all : nearest n.within n.whole ps p ≡ found ∷ []
    nearest_all =
        kept_same (λ q. all (n.within q) (rings n p ps)) (same n.within found) (rings n p ps) (All-weaker _ (λ q. all (n.within q) (rings n p ps) ≡ same n.within found q) test (rings n p ps) inside)
        ∙ lone found _ one (All-weaker _ (λ q. found ≡ q) (same_is n found) _ (kept_by_passes (same n.within found) (rings n p ps)))
