-- What a finder's answers say of the labels of all that it holds.
use Rattle.std.proofs.Common.{◌≡◌, ℕ, ◌<◌, Bool, true, ◌||◌, eqb, List, length, Some, None, Option, sym, ap, ◌∙◌, subst, inl, inr}
use Rattle.std.proofs.lemmas.Option.{slice_get-get_or}
use Rattle.std.proofs.lemmas.Bool.{and_from, and_parts, or_left, or_right, or_cases, not-true, not_from_false, false_from_ne_true, both_ways, cases_Bool, eqb-true, eq-eqb}
use Rattle.std.proofs.lemmas.Bool.Decides.{same_from_decides}
use Rattle.fields.specs.Nest.{Nest}
use Rattle.levels.specs.Levels.{around}
use Rattle.levels.proofs.Counts.{or_false}
use Rattle.levels.proofs.Nearest.{chain}
use Rattle.finders.specs.Finding.{best_label, parent_of, around_label}
use Rattle.finders.specs.Labels.{pattern_at, inside, Distinct, Above, Meets, ParentsTell, BestTells}
use Rattle.finders.proofs.Nearest.{Nearest, nearest_held}

-- two tests that follow from each other
pub iff : (a b : Bool) → (a ≡ true → b ≡ true) → (b ≡ true → a ≡ true) → a ≡ b
iff a b f g = same_from_decides {P = b ≡ true} a b (f, g) ((λ h. h), (λ h. h))

module _ {P V : Type 0} (N : Nest P V) (held : List P) where
  meets : (v : V) (o : Option ℕ) → Nearest N held (λ p. N.matches p v) (length held) o → Meets N held v o
  meets v None h = h
  meets v (Some b) h = (h.low, (λ a l. iff _ _ (h.inner a l) (λ w. N.wider (pattern_at N held b) (pattern_at N held a) v w h.passes)))

  module _ (apart : Distinct N held) (l : ℕ) (low : l < length held) where
    -- around a label is the label itself, and what lies around it and is another one
    pub itself_or : (b : ℕ) → b < length held → inside N held l b ≡ (eqb b l || around N.within (pattern_at N held l) (pattern_at N held b))
    itself_or b m =
        let at = pattern_at N held in
        iff _ _
        (λ w. elim (cases_Bool (N.within (at b) (at l))) [
          | inl v ↦ or_left (eqb b l) _ (eq-eqb b l (apart b l m low v w))
          | inr v ↦ or_right (eqb b l) _ (and_from _ _ w (not_from_false _ v))
        ])
        (λ h. elim (or_cases _ _ h) [
          | inl e ↦ subst (λ c. N.within (at l) (at c) ≡ true) (sym (eqb-true b l e)) (N.reflexive (at l))
          | inr a ↦ (and_parts _ _ a).0
        ])

    above : (o : Option ℕ) → Nearest N held (around N.within (pattern_at N held l)) (length held) o → Above N held l o
    above None h = λ b m. itself_or b m ∙ or_false (eqb b l) _ (h b m)
    above (Some q) h =
        let at = pattern_at N held in
        let outer = and_parts (N.within (at l) (at q)) _ h.passes in
        let off = not-true _ outer.1 in (
          h.low,
          off,
          (λ b m. itself_or b m ∙ ap (λ c. eqb b l || c) (iff _ _ (h.inner b m) (λ w.
              and_from _ _ (N.transitive (at l) (at q) (at b) outer.0 w)
              (not_from_false _ (false_from_ne_true _ (λ u. both_ways _ off (N.transitive (at q) (at b) (at l) w u))))))),
        )

pub parents_tell_lem : {P V : Type 0} (N : Nest P V) → ParentsTell N
parents_tell_lem N held apart l low =
    let p = pattern_at N held l in
    subst (λ o. Above N held l (parent_of N held o)) (sym (slice_get-get_or held l N.whole low))
    (above N held apart l low (around_label N held p) (nearest_held N held (around N.within p) (chain N p)))

pub best_tells_lem : {P V : Type 0} (N : Nest P V) → BestTells N
best_tells_lem N held v = meets N held v (best_label N held v) (nearest_held N held (λ p. N.matches p v) (λ a b. N.nested a b v))
