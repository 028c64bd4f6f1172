-- Lists of which no two are the same, and how long they can be.
use Rattle.std.proofs.Common.{◌≡◌, ◌≤◌, Bool, true, false, not, List, [], ◌∷◌, ◌++◌, length, filter, refl, arith}
use Rattle.std.specs.List.{AllByRecursion}
use Rattle.std.proofs.ByRecursion.{all_kept_by, kept_by_passes, All-weaker, All-append}
use Rattle.std.proofs.lemmas.List.Filters.{length-filter_both}
use Rattle.std.proofs.lemmas.Bool.{cond_both, not-true, not_from_false, both_ways}
use Rattle.fields.specs.Lists.{any, once}
use Rattle.groups.proofs.Tests.{false_from, all_with, any_kept, any_long}

module _ {X : Type 0} (eq : X → X → Bool) where
  abbrev pub Apart : List X → Type 0
  Apart [] = Unit {0}
  Apart (x ∷ xs) = AllByRecursion (λ y. eq x y ≡ false) xs × Apart xs

  pub apart_kept : (p : X → Bool) (xs : List X) → Apart xs → Apart (filter p xs)
  apart_kept p [] a = tt
  apart_kept p (x ∷ xs) a = cond_both (p x) (x ∷ filter p xs) (filter p xs) Apart (λ _. (all_kept_by p _ xs a.0, apart_kept p xs a.1)) (λ _. apart_kept p xs a.1)

  pub apart_once : (xs : List X) → Apart (once eq xs)
  apart_once [] = tt
  apart_once (x ∷ xs) =
      (All-weaker _ (λ y. eq x y ≡ false) (λ y h. not-true _ h) _ (kept_by_passes (λ y. not (eq x y)) (once eq xs)), apart_kept _ (once eq xs) (apart_once xs))

  pub apart_append : (xs ys : List X) → Apart xs → Apart ys → AllByRecursion (λ x. AllByRecursion (λ y. eq x y ≡ false) ys) xs → Apart (xs ++ ys)
  apart_append [] ys a b c = b
  apart_append (x ∷ xs) ys a b c = (All-append (λ y. eq x y ≡ false) xs ys a.0 c.0, apart_append xs ys a.1 b c.1)

  -- as many as there are different ones to be like
  pub pigeons : ((x y z : X) → eq x z ≡ true → eq y z ≡ true → eq x y ≡ true) → (xs ys : List X) → Apart xs → AllByRecursion (λ x. any (eq x) ys ≡ true) xs → length xs ≤ length ys
  pigeons like [] ys a h = omega arith
  pigeons like (x ∷ xs) ys a h =
      let others : X → Bool = λ z. not (eq x z) in
      let rest = all_with _ _ (λ y. any (eq y) (filter others ys) ≡ true) (λ y f g. any_kept (eq y) others (λ z t. not_from_false _ (false_from (eq x z) (λ s. both_ways _ f (like x y z s t)))) ys g) xs a.0 h.1 in
      omega (arith, pigeons like xs (filter others ys) a.1 rest, length-filter_both (eq x) others (λ z. refl) ys, any_long (eq x) _ (any_kept (eq x) (eq x) (λ z t. t) ys h.0))

  -- where all are the same, there is one at most
  pub few_alike : (G : X → Type 0) → ((a b : X) → G a → G b → eq a b ≡ true) → (xs : List X) → AllByRecursion G xs → Apart xs → length xs ≤ 1
  few_alike G h [] g a = omega arith
  few_alike G h (x ∷ []) g a = omega arith
  few_alike G h (x ∷ y ∷ ys) g a = absurd (both_ways _ a.0.0 (h x y g.0 g.1.0))
