-- What a trie that is ready answers.
use Rattle.std.proofs.Common.{◌≡◌, ℕ, ◌-◌, ◌<◌, ◌≤◌, Bool, true, List, length, get_or, take, Some, None, Option, sym, refl, ap, ◌∙◌, subst, ⊎_elim, arith}
use Rattle.std.proofs.lemmas.List.{length-take, length-take-le, take_all, take-take}
use Rattle.std.proofs.lemmas.Bool.{and_parts, and_from, not-true, not_from_false, both_ways, cases_lt, false_from_ne_true}
use Rattle.std.specs.List.{slice_get}
use Rattle.levels.specs.Levels.{same, around}
use Rattle.finders.specs.Finding.{label_place, known, best_label, parent_label}
use Rattle.fields.specs.declared.numbers.Label.{Label}
use Rattle.finders.proofs.Placed.{position_none, position_at}
use Rattle.finders.proofs.Nearest.{Near, Nearest, nearest_all, parent_is}
use Rattle.tries.specs.Nodes.{look, deepest}
use Rattle.tries.specs.Ready.{Ready}
use Rattle.tries.specs.Spelling.{Spelling, Front, Shorter, bits}
use Rattle.tries.specs.declared.node.Node.{Node}
use Rattle.tries.specs.declared.path.BitPath.{BitPath}
use Rattle.tries.proofs.Deep.{Longest, Deepest, deep_is}
use Rattle.tries.proofs.Paths.{bits_length, bits_shorter}

module _ {P V : Type 0} (s : Spelling P V) (nodes : List Node) (held : List P) (r : Ready s nodes held) where
  abbrev at : ℕ → P
  at k = get_or held k s.nest.whole

  -- no pattern is held twice
  apart : (j k : ℕ) → j < length held → k < length held → at j ≡ at k → j ≡ k
  apart j k l m e =
      let x = r.there j l in
      let y = r.there k m in
      let z : label_place (look nodes 0 (s.path (at j))) ≡ label_place (look nodes 0 (s.path (at k))) = ap (λ p. label_place (look nodes 0 (s.path p))) e in
      cc

  -- the label of a pattern's path is its place
  pub path_known : (p : P) → label_place (look nodes 0 (s.path p)) ≡ known s.nest held p
  path_known p = go (label_place (look nodes 0 (s.path p))) refl
    where
      go : (o : Option ℕ) → label_place (look nodes 0 (s.path p)) ≡ o → o ≡ known s.nest held p
      go (Some k) e =
          let h = r.named (s.path p) k e in
          let is : at k ≡ p = s.one (at k) p h.1 in
          let self : same s.nest.within p (at k) ≡ true = subst (λ q. same s.nest.within p q ≡ true) (sym is) (and_from _ _ (s.nest.reflexive p) (s.nest.reflexive p)) in
          sym (position_at (same s.nest.within p) s.nest.whole held k h.0 self (λ j l. false_from_ne_true _ (λ y.
          let b = and_parts (s.nest.within p (at j)) _ y in
          omega (arith, apart j k (omega (arith, h.0)) h.0 (sym (s.nest.antisymmetric p (at j) b.0 b.1) ∙ sym is)))))
      go None e = sym (position_none (same s.nest.within p) s.nest.whole held (λ j l. false_from_ne_true _ (λ y.
          let b = and_parts (s.nest.within p (at j)) _ y in
          let x = r.there j l in
          let q = s.nest.antisymmetric p (at j) b.0 b.1 in
          cc)))

  pub known_is : (p : P) (bs : List Bool) → bs ≡ s.path p → (o : Option Label) → o ≡ look nodes 0 bs → label_place o ≡ known s.nest held p
  known_is p bs eb o eo = ap label_place (eo ∙ ap (look nodes 0) eb) ∙ path_known p

  -- of the patterns that are fronts of the bits, which pass the test t, the deepest label is that of the nearest
  module _ (way : List Bool) (t : P → Bool) (fronts : (q : P) → t q ≡ true → Front (s.path q) way) (passes : (q : P) → Front (s.path q) way → t q ≡ true) where
    -- a front that is held has a label
    labelled : (j : ℕ) → j < length held → t (at j) ≡ true → label_place (look nodes 0 (take (length (s.path (at j))) way)) ≡ Some j
    labelled j l y = ap (λ bs. label_place (look nodes 0 bs)) (sym (fronts (at j) y).first) ∙ r.there j l

    not_none : (j n : ℕ) → j < length held → t (at j) ≡ true → n ≡ length (s.path (at j)) → look nodes 0 (take n way) ≡ None → ⊥
    not_none j n l y e o =
        let x = labelled j l y in
        let a : label_place (look nodes 0 (take (length (s.path (at j))) way)) ≡ None = ap (λ (m : ℕ). label_place (look nodes 0 (take m way))) (sym e) ∙ ap label_place o in
        cc

    near : (l : Label) (n : ℕ) → Longest nodes 0 way l n → Near s.nest held t (length held) l.place
    near l n d =
        let k = l.place in
        let h = r.named (take n way) k (ap label_place d.here) in
        let long : length (s.path (at k)) ≡ n = ap length h.1 ∙ length-take-le n way d.short in
        let inner : (j : ℕ) → j < length held → t (at j) ≡ true → s.nest.within (at k) (at j) ≡ true = λ j lt y.
        let f = fronts (at j) y in
        let m = length (s.path (at j)) in
        ⊎_elim
        (λ (x : n < m). absurd (not_none j m lt y refl (d.after m x f.short)))
        (λ (x : m ≤ n). s.covers (at k) (at j) (f.first ∙ sym (take-take m n way x) ∙ ap (take m) (sym h.1)))
        (cases_lt n m) in
        record {
          low = h.0;
          passes = passes (at k) (record { short = omega (arith, d.short); first = h.1 ∙ ap (λ (m : ℕ). take m way) (sym long) });
          inner = inner;
          first = λ j lt y. false_from_ne_true _ (λ x. omega (arith, apart j k (omega (arith, h.0)) h.0 (s.nest.antisymmetric (at j) (at k) x (inner j (omega (arith, h.0)) y))));
        }

    deep_nearest : (o : Option Label) → Deepest nodes 0 way o → Nearest s.nest held t (length held) (label_place o)
    deep_nearest (Some l) d = near l d.0 d.1
    deep_nearest None d = λ j l. false_from_ne_true _ (λ y. not_none j (length (s.path (at j))) l y refl (d (length (s.path (at j))) (fronts (at j) y).short))

    pub nearest_is : Nearest s.nest held t (length held) (label_place (deepest nodes 0 way))
    nearest_is = deep_nearest (deepest nodes 0 way) (deep_is nodes 0 way)

  pub best_is : (v : V) (bs : List Bool) → bs ≡ s.spell v → (o : Option Label) → o ≡ deepest nodes 0 bs → label_place o ≡ best_label s.nest held v
  best_is v bs eb o eo =
      ap label_place (eo ∙ ap (deepest nodes 0) eb)
      ∙ nearest_all s.nest held (λ p. s.nest.matches p v) (length held) (label_place (deepest nodes 0 (s.spell v))) refl
      (nearest_is (s.spell v) (λ p. s.nest.matches p v)
      (λ q y. record { short = omega (arith, s.short q, s.full v); first = s.hit q v y })
      (λ q f. s.hits q v f.first))

  -- what lies around p has fewer of its bits
  module _ (p : P) where
    fewer : (q : P) → around s.nest.within p q ≡ true → length (s.path q) < length (s.path p)
    fewer q y =
        let b = and_parts (s.nest.within p q) _ y in
        let f = s.covered p q b.0 in
        let n = ap length f ∙ length-take (length (s.path q)) (s.path p) in
        ⊎_elim
        (λ (x : length (s.path q) < length (s.path p)). x)
        (λ (x : length (s.path p) ≤ length (s.path q)).
        let e : q ≡ p = s.one q p (f ∙ take_all (length (s.path q)) (s.path p) x) in
        absurd (both_ways _ (not-true _ b.1) (subst (λ z. s.nest.within z p ≡ true) (sym e) (s.nest.reflexive p))))
        (cases_lt (length (s.path q)) (length (s.path p)))

    above : 0 < length (s.path p) → Nearest s.nest held (around s.nest.within p) (length held) (label_place (deepest nodes 0 (take (length (s.path p) - 1) (s.path p))))
    above pos =
        let m = length (s.path p) - 1 in
        let long : length (take m (s.path p)) ≡ m = length-take-le m (s.path p) (omega arith) in
        nearest_is (take m (s.path p)) (around s.nest.within p)
        (λ q y.
        let l = fewer q y in
        record { short = omega arith; first = s.covered p q (and_parts (s.nest.within p q) _ y).0 ∙ sym (take-take (length (s.path q)) m (s.path p) (omega arith)) })
        (λ q f.
        let l : length (s.path q) ≤ m = omega (arith, f.short) in
        let w = s.covers p q (f.first ∙ take-take (length (s.path q)) m (s.path p) l) in
        and_from _ _ w (not_from_false _ (false_from_ne_true _ (λ x. let n = ap length (s.covered q p x) ∙ length-take (length (s.path p)) (s.path q) in omega arith))))

    none_above : length (s.path p) ≡ 0 → Nearest s.nest held (around s.nest.within p) (length held) None
    none_above e = λ j l. false_from_ne_true _ (λ y. omega (arith, fewer (at j) y))

    -- where p is the pattern of a label, whose path is given
    module _ (l : ℕ) (e : Some p ≡ slice_get held l) (path : BitPath) (ep : bits path ≡ s.path p) (o : Option Label) where
      pub parent_above : (up : BitPath) → Shorter path up → o ≡ deepest nodes 0 (bits up) → label_place o ≡ parent_label s.nest held l
      parent_above up h eo =
          let pos : 0 < length (s.path p) = omega (arith, h.some, bits_length path, ap length ep) in
          ap label_place (eo ∙ ap (deepest nodes 0) (bits_shorter path up h ∙ ap (λ bs. take (length bs - 1) bs) ep)) ∙ parent_is s.nest held l p (length held) _ e refl (above pos)

      pub parent_none : path.length ≡ 0 → o ≡ None → label_place o ≡ parent_label s.nest held l
      parent_none z eo = ap label_place eo ∙ parent_is s.nest held l p (length held) None e refl (none_above (sym (ap length ep) ∙ bits_length path ∙ z))
