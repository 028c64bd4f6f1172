-- Where the first element that passes stands.
use Rattle.std.proofs.Common.{◌≡◌, ℕ, ◌<◌, Bool, true, false, cond, ltb, List, length, get_or, Some, None, Option, ap, ◌∙◌, arith}
use Rattle.std.proofs.ByRecursion.{All-from_get_or}
use Rattle.std.proofs.lemmas.Bool.{ltb-true, ltb-false, lt-ltb, le-ltb, cond-true, cond-false, cond_both}
use Rattle.std.proofs.lemmas.List.Sums.{position_or_len_is, fails_before_first, passes_at_first}
use Rattle.std.specs.List.{AllByRecursion, position, position_or_len}

module _ {X : Type 0} (q : X → Bool) (d : X) (xs : List X) where
  abbrev at_place : ℕ → Option ℕ
  at_place k = cond (ltb k (length xs)) (Some k) None

  -- nothing passes
  pub position_none : ((j : ℕ) → j < length xs → q (get_or xs j d) ≡ false) → position q xs ≡ None
  position_none h =
      ap at_place (position_or_len_is q xs (length xs) d (omega arith) h (λ l. absurd (omega arith)))
      ∙ cond-false (ltb (length xs) (length xs)) (Some (length xs)) None (le-ltb _ _ (omega arith))

  -- what stands at k passes, and nothing before it does
  pub position_at : (k : ℕ) → k < length xs → q (get_or xs k d) ≡ true → ((j : ℕ) → j < k → q (get_or xs j d) ≡ false) → position q xs ≡ Some k
  position_at k l t h =
      ap at_place (position_or_len_is q xs k d (omega arith) h (λ _. t)) ∙ cond-true (ltb k (length xs)) (Some k) None (lt-ltb _ _ l)

  -- what stands at a place that was found passes, and where none was found nothing does
  abbrev pub Placed : Option ℕ → Type 0
  Placed None = AllByRecursion (λ x. q x ≡ false) xs
  Placed (Some k) = (k < length xs) × (q (get_or xs k d) ≡ true)

  pub placed : Placed (position q xs)
  placed =
      let k = position_or_len q xs in
      cond_both (ltb k (length xs)) (Some k) None Placed
      (λ e. let l = ltb-true k (length xs) e in (l, passes_at_first q xs d l))
      (λ e. All-from_get_or _ xs d (λ j l. fails_before_first q xs j d (omega (arith, ltb-false k (length xs) e))))
