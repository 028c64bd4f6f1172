-- A child added to a node: what is kept, and what is new.
use Rattle.std.proofs.Common.{◌≡◌, ℕ, zero, suc, ◌+◌, ◌<◌, true, false, cond, ◌&&◌, eqb, List, [], ◌∷◌, ◌++◌, length, get_or, set, Some, None, Option, sym, refl, ap, ◌∙◌, ⊎_elim, arith}
use Rattle.std.proofs.lemmas.List.{get_or_push}
use Rattle.std.proofs.lemmas.Bool.{cases_Bool, cond-true, cond-false}
use Rattle.std.proofs.lemmas.Bool.Decides.{nat_tests}
use Rattle.std.proofs.lemmas.Grind.{common_steps}
use Rattle.keytables.specs.Chains.{link_of, latest}
use Rattle.keytables.proofs.Chains.{chained_more}
use Rattle.keytables.proofs.Latest.{latest_more, latest_same}
use Rattle.keytrees.specs.Nodes.{no_node, bare, with_first, head_of, is_child, child_of, end_of, held, Grown, Kept}
use Rattle.keytrees.specs.declared.tree.Node.{Node}
use Rattle.keytrees.proofs.Children.{child_holds}
use Rattle.keytrees.proofs.Ends.{held_step, held_at, ends_kept}

abbrev pub added : List Node → ℕ → ℕ → List Node
added nodes p x = set nodes p (with_first (get_or nodes p no_node) (length nodes)) ++ bare (Some p) x (get_or nodes p no_node).first ∷ []

module _ (nodes : List Node) (p x : ℕ) (l : p < length nodes) where
  added_length : length (added nodes p x) ≡ length nodes + 1
  added_length = grind (arith, common_steps)

  added_new : get_or (added nodes p x) (length nodes) no_node ≡ bare (Some p) x (get_or nodes p no_node).first
  added_new = grind (arith, common_steps, get_or_push {X = Node})

  first_old : (j : ℕ) → (j ≡ p → ⊥) → (get_or (added nodes p x) j no_node).first ≡ (get_or nodes j no_node).first
  first_old j ne = grind (arith, common_steps, get_or_push {X = Node})

  first_new : (get_or (added nodes p x) p no_node).first ≡ Some (length nodes)
  first_new = grind (arith, common_steps)

  child_added : (q y : ℕ) → child_of (added nodes p x) q y ≡ cond (eqb (suc p) (suc q) && eqb x y) (Some (length nodes)) (child_of nodes q y)
  unfolding child_of
  child_added q y =
      let more = added nodes p x in
      let new : is_child more q y (length nodes) ≡ (eqb (suc p) (suc q) && eqb x y) = ap (λ (v : Node). eqb (link_of v.parent) (suc q) && eqb v.number y) added_new in
      let old = latest_same (is_child more q y) (is_child nodes q y) (length nodes) (λ j k. grind (arith, common_steps)) in
      ap (latest (is_child more q y)) added_length ∙ latest_more (is_child more q y) (length nodes) ∙ cc

  pub child_new : child_of (added nodes p x) p x ≡ Some (length nodes)
  child_new = grind (arith, nat_tests, child_added p x)

  head_other : (a : ℕ) → (a ≡ suc p → ⊥) → head_of (added nodes p x) a ≡ head_of nodes a
  head_other zero ne = refl
  head_other (suc a) ne = ap link_of (first_old a (λ e. ne (ap suc e)))

  pub grown_added : Grown nodes → Grown (added nodes p x)
  grown_added t = record {
    root = omega (arith, added_length);
    before = λ j. grind (arith, common_steps, t.before j, get_or_push {X = Node});
    chained = rw added_length
        (chained_more _ _ _ _ _ _ (length nodes) (suc p) t.chained (record {
          chains = λ j k. grind (arith, common_steps);
          chain_new = ap (λ (v : Node). link_of v.parent) added_new;
          links = λ j k. grind (arith, common_steps);
          link_new = ap (λ (v : Node). link_of v.next) added_new;
          heads = head_other;
          head_new = ap link_of first_new ∙ omega arith;
        }));
  }

  entry_all : (j : ℕ) → (get_or (added nodes p x) j no_node).entry ≡ (get_or nodes j no_node).entry
  entry_all j = grind (arith, common_steps, get_or_push {X = Node})

  module _ (t : Grown nodes) (none : child_of nodes p x ≡ None) where
    child_kept : (q y c : ℕ) → child_of nodes q y ≡ Some c → child_of (added nodes p x) q y ≡ Some c
    child_kept q y c e = grind (arith, nat_tests, child_added q y)

    -- nothing is stored below a place that no node has
    held_past : (ys : List ℕ) → held nodes (length nodes) ys ≡ None
    unfolding end_of
    held_past [] = grind (arith, common_steps, held_at nodes (length nodes) [] (Some (length nodes)) refl)
    held_past (y ∷ ys) = at (child_of nodes (length nodes) y) refl
      where
        at : (o : Option ℕ) → child_of nodes (length nodes) y ≡ o → held nodes (length nodes) (y ∷ ys) ≡ None
        at None s = held_step nodes (length nodes) y ys None s
        at (Some c) s =
            let f = child_holds nodes (length nodes) y c s in
            absurd (omega (arith, f.within, f.parent, t.before c))

    held_kept : (q : ℕ) (ys : List ℕ) → held (added nodes p x) q ys ≡ held nodes q ys
    unfolding end_of
    held_kept q [] =
        held_at (added nodes p x) q [] (Some q) refl ∙ entry_all q ∙ sym (held_at nodes q [] (Some q) refl)
    held_kept q (y ∷ ys) = at (λ c. held_kept c ys) (child_of nodes q y) refl
      where
        at : ((c : ℕ) → held (added nodes p x) c ys ≡ held nodes c ys) → (o : Option ℕ) → child_of nodes q y ≡ o → held (added nodes p x) q (y ∷ ys) ≡ held nodes q (y ∷ ys)
        at ih (Some c) s = held_step (added nodes p x) q y ys (Some c) (child_kept q y c s) ∙ ih c ∙ sym (held_step nodes q y ys (Some c) s)
        at ih None s =
            let n = length nodes in
            let is = child_added q y in
            let here = held_step (added nodes p x) q y ys in
            let there = held_step nodes q y ys None s in
            ⊎_elim
            (λ (h : (eqb (suc p) (suc q) && eqb x y) ≡ true). here (Some n) (is ∙ cond-true _ (Some n) (child_of nodes q y) h) ∙ ih n ∙ held_past ys ∙ sym there)
            (λ (h : (eqb (suc p) (suc q) && eqb x y) ≡ false). here None (is ∙ cond-false _ (Some n) (child_of nodes q y) h ∙ s) ∙ sym there)
            (cases_Bool (eqb (suc p) (suc q) && eqb x y))

    pub kept_added : Kept nodes (added nodes p x)
    kept_added = record { ends = ends_kept nodes (added nodes p x) child_kept; entries = held_kept }
