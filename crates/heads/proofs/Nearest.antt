-- The place of the first best of a list, and the nearest head.
use Rattle.std.proofs.Common.{◌≡◌, ℕ, zero, suc, ◌<◌, ◌≤◌, Bool, true, false, ltb, List, [], ◌∷◌, map, length, get_or, sym, refl, ap, ◌∙◌, subst, arith}
use Rattle.std.specs.List.{AllByRecursion, IsFirstBest}
use Rattle.std.proofs.ByRecursion.{All-from_get_or, All-get_or, All-map, All-weaker}
use Rattle.std.proofs.lemmas.List.{get_or-map, length-map}
use Rattle.std.proofs.lemmas.Bool.{ltb-true, ltb-false, leb-true, le-leb, cond-true, cond-false}
use Rattle.groups.specs.Tuples.{distance, nearest_head}
use Rattle.groups.proofs.Tests.{all_is, false_from}

module _ {X : Type 0} (beats : X → X → Bool) (x : X) (xs : List X) where
  -- where the first is the best, no other beats it
  pub first_leads : IsFirstBest beats (x ∷ xs) (length (x ∷ xs)) 0 → AllByRecursion (λ y. beats y x ≡ false) xs
  first_leads h = All-from_get_or _ xs x (λ i l. h.1 (suc i) x (omega arith))

  -- where another is the best, it beats the first, and is the best of the others
  pub first_behind : (b : ℕ) → IsFirstBest beats (x ∷ xs) (length (x ∷ xs)) (suc b) → ((d : X) → beats (get_or xs b d) x ≡ true) × IsFirstBest beats xs (length xs) b
  first_behind b h = (
    (λ d. h.2 0 d (omega arith)),
    (omega (arith, h.0), (λ k d l. h.1 (suc k) d (omega arith)), λ k d l. h.2 (suc k) d (omega arith)),
  )

module _ {X : Type 0} (f : X → List ℕ) (t : List ℕ) where
  -- whether x is nearer to t than y
  abbrev pub nearer : X → X → Bool
  nearer x y = ltb (distance t (f x)) (distance t (f y))

  nearest_first : (xs : List X) (b : ℕ) → IsFirstBest nearer xs (length xs) b → b ≡ nearest_head t (map f xs)
  nearest_first [] b h = absurd (omega (arith, h.0))
  nearest_first (x ∷ xs) zero h =
      sym (cond-true _ 0 _ ((all_is _ (map f xs)).1 (All-map _ f xs (All-weaker _ _ (λ y n. le-leb _ _ (ltb-false _ _ n)) xs (first_leads nearer x xs h)))))
  nearest_first (x ∷ xs) (suc b) h =
      let k = first_behind nearer x xs b h in
      let in' : b < length xs = omega (arith, k.1.0) in
      ap suc (nearest_first xs b k.1) ∙ sym (cond-false _ 0 _ (false_from _ (λ e.
      let far = All-get_or _ (map f xs) b (f x) (omega (arith, length-map xs f)) ((all_is _ (map f xs)).0 e) in
      let near = ltb-true _ _ (k.0 x) in
      omega (arith, leb-true _ _ far, ap (distance t) (get_or-map f xs b x (f x) in')))))

  -- at the end of a loop from place 1 on, which takes no turn where there is nothing
  pub nearest_all : (xs : List X) (i b : ℕ) → IsFirstBest nearer xs i b → (length xs ≡ 0 → b ≡ 0) → length xs ≤ i → (1 ≤ length xs → i ≤ length xs) → b ≡ nearest_head t (map f xs)
  nearest_all [] i b h none l m = none refl
  nearest_all (x ∷ xs) i b h none l m = let end : i ≡ length (x ∷ xs) = omega (arith, m (omega arith)) in nearest_first (x ∷ xs) b (subst (λ n. IsFirstBest nearer (x ∷ xs) n b) end h)
