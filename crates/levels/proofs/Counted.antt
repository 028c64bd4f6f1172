-- The count of a level, from pattern to pattern.
use Rattle.std.proofs.Common.{◌≡◌, ℕ, ◌+◌, ◌^◌, ◌≤◌, Bool, true, false, cond, not, ◌&&◌, List, [], ◌∷◌, ◌++◌, length, Decides, filter, sym, refl, ap, ◌∙◌, subst, arith}
use Rattle.std.specs.List.{ContainsAt as Has, AllByRecursion}
use Rattle.std.proofs.ByRecursion.{All-push}
use Rattle.std.proofs.lemmas.List.{length_push, append-nil}
use Rattle.std.proofs.lemmas.Bool.{and_from, and_left, and_right, not_from_true, not_from_false, or_right, cond-true}
use Rattle.std.proofs.lemmas.Bool.Decides.{Decides-by_or}
use Rattle.fields.specs.Lists.{any}
use Rattle.fields.specs.Nest.{Nest}
use Rattle.levels.specs.Levels.{same, around, marked}
use Rattle.levels.specs.Told.{told}
use Rattle.levels.proofs.Counts.{count_split, kept_once_push, one_each}
use Rattle.levels.proofs.Few.{few, same_is, same_from}

module _ {P V : Type 0} (n : Nest P V) (p : P) where
  -- the other marked patterns around p
  abbrev pub rings : List P → List P
  rings ps = filter (around n.within p) (marked n.within n.whole ps)

  -- the count is the level; where the whole pattern tells itself, each that was counted does
  pub record Counted (ps : List P) (count : ℕ) : Type 0 where
    pub is : count ≡ length (rings ps)
    pub telling : told n n.whole ≡ true → AllByRecursion (λ q. told n q ≡ true) (rings ps)

  pub counted_from : (b : Bool) → b ≡ around n.within p n.whole → Counted [] (cond b 1 0)
  counted_from true e = record { is = ap (λ c. length (cond c (n.whole ∷ []) [])) e; telling = λ h. subst (λ c. AllByRecursion (λ q. told n q ≡ true) (cond c (n.whole ∷ []) [])) e (h, tt) }
  counted_from false e = record { is = ap (λ c. length (cond c (n.whole ∷ []) [])) e; telling = λ h. subst (λ c. AllByRecursion (λ q. told n q ≡ true) (cond c (n.whole ∷ []) [])) e tt }

  module _ (ps : List P) (q : P) (count : ℕ) (c : Counted ps count) where
    more : (b : Bool) → (around n.within p q && not (any (λ z. same n.within z q) (n.whole ∷ ps))) ≡ b → rings (ps ++ q ∷ []) ≡ rings ps ++ cond b (q ∷ []) []
    more b e = kept_once_push (same n.within) (around n.within p) (n.whole ∷ ps) q ∙ ap (λ a. rings ps ++ cond a (q ∷ []) []) e

    pub counted_takes : true ≡ around n.within p q → false ≡ any (λ z. same n.within z q) (n.whole ∷ ps) → told n q ≡ true → Counted (ps ++ q ∷ []) (count + 1)
    counted_takes a m h =
        let e = more true (and_from _ _ (sym a) (not_from_false _ (sym m))) in
        record { is = omega (arith, c.is, length_push (rings ps) q, ap length e); telling = λ w. subst (AllByRecursion (λ z. told n z ≡ true)) (sym e) (All-push _ (rings ps) q (c.telling w) h) }

    keeps : (around n.within p q && not (any (λ z. same n.within z q) (n.whole ∷ ps))) ≡ false → Counted (ps ++ q ∷ []) count
    keeps f =
        let e = more false f ∙ append-nil (rings ps) in
        record { is = c.is ∙ sym (ap length e); telling = λ w. subst (AllByRecursion (λ z. told n z ≡ true)) (sym e) (c.telling w) }

    pub counted_marked : true ≡ any (λ z. same n.within z q) (n.whole ∷ ps) → Counted (ps ++ q ∷ []) count
    counted_marked m = keeps (and_right _ _ (not_from_true _ (sym m)))

    pub counted_aside : false ≡ around n.within p q → Counted (ps ++ q ∷ []) count
    counted_aside a = keeps (and_left _ _ (sym a))

  pub counted_few : (ps : List P) (count : ℕ) → Counted ps count → told n n.whole ≡ true → count ≤ 2 ^ 40
  counted_few ps count c h = omega (arith, c.is, few n (around n.within p) (n.whole ∷ ps) (c.telling h))

  -- p itself is one more, where it is marked
  pub around_count : (ps : List P) → Has ps p → length (filter (n.within p) (marked n.within n.whole ps)) ≡ length (rings ps) + 1
  around_count ps h =
      let is-p : (q : P) → Decides (same n.within p q) (q ≡ p) = λ q. ((λ e. sym (same_is n p q e)), (λ e. same_from n p q (sym e))) in
      let found = (Decides-by_or (same n.within p) (λ q. q ≡ p) (any (same n.within p)) is-p refl (λ _ _. refl) ps).1 h in
      count_split (n.within p) (around n.within p) (same n.within p) (λ q. parts (n.within p q) (n.within q p)) (marked n.within n.whole ps)
      ∙ ap (λ (m : ℕ). length (rings ps) + m) (one_each (same n.within) (same_is n) (same n.within p) (λ x y a b. same_from n x y ((is-p x).0 a ∙ sym ((is-p y).0 b))) (n.whole ∷ ps) ∙ cond-true _ 1 0 (or_right _ _ found))
    where
      parts : (a b : Bool) → cond a 1 0 ≡ cond (a && not b) 1 0 + cond (a && b) 1 0
      parts true true = refl
      parts true false = refl
      parts false b = refl
