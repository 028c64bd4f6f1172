-- What a trie holds at first, and with one more pattern.
use Rattle.std.proofs.Common.{◌≡◌, ◌≢◌, true, false, ℕ, ◌+◌, ◌<◌, ◌≤◌, Bool, ◌⊎◌, List, [], ◌∷◌, ◌++◌, length, get_or, Some, None, sym, refl, ap, ◌∙◌, subst, inl, inr, ⊎_elim, arith}
use Rattle.std.proofs.lemmas.List.{length_push, get_or_push, get_or_append_left}
use Rattle.std.proofs.Math.Bool.{beq}
use Rattle.std.proofs.lemmas.Bool.{both_ways, cases_Bool, cases_lt}
use Rattle.std.proofs.lemmas.Slice.Eq.{slice_eq-Decides}
use Rattle.std.specs.Cmp.{booleans_Decides}
use Rattle.std.specs.Cmp.Lexicographic.{pointwise}
use Rattle.finders.specs.Finding.{label_place, known}
use Rattle.fields.specs.declared.numbers.Label.{Label}
use Rattle.tries.specs.Nodes.{no_node, look}
use Rattle.tries.specs.Ready.{Ready}
use Rattle.tries.specs.Spelling.{Spelling}
use Rattle.tries.specs.declared.node.Node.{Node}
use Rattle.tries.proofs.Finds.{known_is}
use Rattle.tries.proofs.Grows.{look_root}

-- the same bits, or not
same_bits : (xs ys : List Bool) → (xs ≡ ys) ⊎ (xs ≢ ys)
same_bits xs ys =
    let same = slice_eq-Decides booleans_Decides xs ys (pointwise beq xs ys) refl in
    ⊎_elim (λ (e : pointwise beq xs ys ≡ true). inl (same.0 e)) (λ (e : pointwise beq xs ys ≡ false). inr (λ p. both_ways _ e (same.1 p))) (cases_Bool (pointwise beq xs ys))

pub ready_root : {P V : Type 0} (s : Spelling P V) (nodes : List Node) (held : List P) → nodes ≡ no_node ∷ [] → held ≡ [] → Ready s nodes held
ready_root s nodes held en eh =
    subst (λ x. Ready s x held) (sym en) (subst (λ x. Ready s (no_node ∷ []) x) (sym eh)
    (record {
      named = λ bs k y. let n = ap label_place (look_root bs) in cc;
      there = λ k l. absurd (omega arith);
      few = omega arith;
      fits = omega arith;
    }))

-- the labels with one more
module _ {P V : Type 0} (s : Spelling P V) (nodes more : List Node) (held : List P) (p : P) (bs : List Bool) (l : Label) (is : bs ≡ s.path p) (r : Ready s nodes held) where
  module _ (here : look more 0 bs ≡ Some l) (others : (xs : List Bool) → (xs ≡ bs → ⊥) → look more 0 xs ≡ look nodes 0 xs) (last : l.place ≡ length held) where
    named_more : (xs : List Bool) (k : ℕ) → label_place (look more 0 xs) ≡ Some k → (k < length (held ++ p ∷ [])) × (s.path (get_or (held ++ p ∷ []) k s.nest.whole) ≡ xs)
    named_more xs k y = ⊎_elim
        (λ (e : xs ≡ bs).
        let a : label_place (look more 0 xs) ≡ Some l.place = ap (λ ys. label_place (look more 0 ys)) e ∙ ap label_place here in
        let b : k ≡ l.place = cc in
        (omega (arith, length_push held p), ap s.path (get_or_push held p s.nest.whole k (sym (b ∙ last))) ∙ sym (e ∙ is)))
        (λ (e : xs ≡ bs → ⊥).
        let o = r.named xs k (ap label_place (sym (others xs e)) ∙ y) in
        (omega (arith, length_push held p, o.0), ap s.path (get_or_append_left held (p ∷ []) s.nest.whole k o.0) ∙ o.1))
        (same_bits xs bs)

    there_more : label_place (look nodes 0 bs) ≡ None → (k : ℕ) → k < length (held ++ p ∷ []) → label_place (look more 0 (s.path (get_or (held ++ p ∷ []) k s.nest.whole))) ≡ Some k
    there_more new k y = ⊎_elim
        (λ (h : k < length held).
        let o = r.there k h in
        let q = s.path (get_or held k s.nest.whole) in
        let ne : (q ≡ bs → ⊥) = λ e.
        let a : label_place (look nodes 0 q) ≡ None = ap (λ ys. label_place (look nodes 0 ys)) e ∙ new in
        cc in
        ap (λ x. label_place (look more 0 (s.path x))) (get_or_append_left held (p ∷ []) s.nest.whole k h) ∙ ap label_place (others q ne) ∙ o)
        (λ (h : length held ≤ k).
        let e : k ≡ length held = omega (arith, length_push held p) in
        ap (λ x. label_place (look more 0 (s.path x))) (get_or_push held p s.nest.whole k (sym e)) ∙ ap (λ ys. label_place (look more 0 ys)) (sym is) ∙ ap label_place here ∙ ap Some (last ∙ sym e))
        (cases_lt k (length held))

    pub ready_more : None ≡ known s.nest held p → length held < 257 → length more ≤ length nodes + length bs → (all : List P) → all ≡ held ++ p ∷ [] → Ready s more all
    ready_more new h long all e = subst (λ x. Ready s more x) (sym e) (record {
      named = named_more;
      there = there_more (known_is s nodes held r p bs is (look nodes 0 bs) refl ∙ sym new);
      few = omega (arith, length_push held p);
      fits = omega (arith, length_push held p, r.fits, ap length is, s.short p, s.narrow);
    })
