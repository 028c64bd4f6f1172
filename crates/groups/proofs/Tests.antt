-- Tests over lists.
use Rattle.std.proofs.Common.{◌≡◌, ◌≤◌, Bool, true, false, cond, not, ◌&&◌, ◌||◌, List, [], ◌∷◌, ◌++◌, map, length, Decides, filter, sym, refl, ap, ◌∙◌, arith}
use mathlib.Core.Bool.{false≢true}
use Rattle.std.specs.List.{flat_map, AllByRecursion}
use Rattle.std.proofs.ByRecursion.{all_kept_by, All-append, All-weaker, Decides-by_and}
use Rattle.std.proofs.lemmas.Bool.{and_from, or_left, or_right, both_ways}
use Rattle.std.proofs.lemmas.Bool.Decides.{same_from_decides}
use Rattle.fields.specs.Lists.{any, all, once}

pub false_from : (b : Bool) → (b ≡ true → ⊥) → b ≡ false
false_from true h = absurd (h refl)
false_from false h = refl

pub iff : (a b : Bool) → (a ≡ true → b ≡ true) → (b ≡ true → a ≡ true) → a ≡ b
iff a b f g = same_from_decides {P = b ≡ true} a b (f, g) ((λ h. h), (λ h. h))

or_assoc : (a b c : Bool) → ((a || b) || c) ≡ (a || (b || c))
or_assoc true b c = refl
or_assoc false b c = refl

or_and : (a b c : Bool) → ((a && c) || (b && c)) ≡ ((a || b) && c)
or_and true true true = refl
or_and true true false = refl
or_and true false true = refl
or_and true false false = refl
or_and false b c = refl

module _ {X : Type 0} where
  pub all_with : (F G H : X → Type 0) → ((x : X) → F x → G x → H x) → (xs : List X) → AllByRecursion F xs → AllByRecursion G xs → AllByRecursion H xs
  all_with F G H s [] f g = tt
  all_with F G H s (x ∷ xs) f g = (s x f.0 g.0, all_with F G H s xs f.1 g.1)

  pub all_once : (F : X → Type 0) (eq : X → X → Bool) (xs : List X) → AllByRecursion F xs → AllByRecursion F (once eq xs)
  all_once F eq [] f = tt
  all_once F eq (x ∷ xs) f = (f.0, all_kept_by (λ y. not (eq x y)) F (once eq xs) (all_once F eq xs f.1))

  pub all_is : (p : X → Bool) (xs : List X) → Decides (all p xs) (AllByRecursion (λ x. p x ≡ true) xs)
  all_is p xs = Decides-by_and p (λ x. p x ≡ true) (all p) (λ x. ((λ h. h), (λ h. h))) refl (λ _ _. refl) xs

  -- x stands in the list: it passes no test that none there passes
  abbrev pub Found : List X → X → Type 0
  Found xs x = (t : X → Bool) → t x ≡ true → any t xs ≡ true

  pub all_found : (xs : List X) → AllByRecursion (Found xs) xs
  all_found [] = tt
  all_found (x ∷ xs) = ((λ t h. or_left (t x) _ h), All-weaker (Found xs) (Found (x ∷ xs)) (λ y f t h. or_right (t x) _ (f t h)) xs (all_found xs))

  -- what follows from each that passes follows if one does
  pub any_out : (F : X → Type 0) (p : X → Bool) (C : Type 0) → ((x : X) → F x → p x ≡ true → C) → (xs : List X) → AllByRecursion F xs → any p xs ≡ true → C
  any_out F p C s [] f h = absurd (false≢true h)
  any_out F p C s (x ∷ xs) f h = go (any_out F p C s xs f.1) (p x) refl h
    where
      go : (any p xs ≡ true → C) → (b : Bool) → p x ≡ b → (b || any p xs) ≡ true → C
      go ih true e k = s x f.0 e
      go ih false e k = ih k

  pub any_on : (F : X → Type 0) (p q : X → Bool) → ((x : X) → F x → p x ≡ true → q x ≡ true) → (xs : List X) → AllByRecursion F xs → any p xs ≡ true → any q xs ≡ true
  any_on F p q s xs f =
      any_out (λ x. F x × Found xs x) p _ (λ x g h. g.1 q (s x g.0 h)) xs (all_with F (Found xs) (λ x. F x × Found xs x) (λ x a b. (a, b)) xs f (all_found xs))

  pub any_weaker : (p q : X → Bool) → ((x : X) → p x ≡ true → q x ≡ true) → (xs : List X) → any p xs ≡ true → any q xs ≡ true
  any_weaker p q s xs = any_out (Found xs) p _ (λ x f h. f q (s x h)) xs (all_found xs)

  pub any_long : (p : X → Bool) (xs : List X) → any p xs ≡ true → 1 ≤ length xs
  any_long p [] h = absurd (false≢true h)
  any_long p (x ∷ xs) h = omega arith

  pub any_append : (q : X → Bool) (xs ys : List X) → any q (xs ++ ys) ≡ (any q xs || any q ys)
  any_append q [] ys = refl
  any_append q (x ∷ xs) ys = ap (λ b. q x || b) (any_append q xs ys) ∙ sym (or_assoc (q x) (any q xs) (any q ys))

  pub any_and_right : (b : Bool) (q : X → Bool) (xs : List X) → any (λ x. q x && b) xs ≡ (any q xs && b)
  any_and_right b q [] = refl
  any_and_right b q (x ∷ xs) = ap (λ c. (q x && b) || c) (any_and_right b q xs) ∙ or_and (q x) (any q xs) b

  pub any_kept_is : (p q : X → Bool) (xs : List X) → any p (filter q xs) ≡ any (λ x. q x && p x) xs
  any_kept_is p q [] = refl
  any_kept_is p q (x ∷ xs) = go (q x) (any_kept_is p q xs)
    where
      go : (b : Bool) → any p (filter q xs) ≡ any (λ y. q y && p y) xs → any p (cond b (x ∷ filter q xs) (filter q xs)) ≡ ((b && p x) || any (λ y. q y && p y) xs)
      go true ih = ap (λ c. p x || c) ih
      go false ih = ih

  pub any_kept : (p q : X → Bool) → ((x : X) → p x ≡ true → q x ≡ true) → (xs : List X) → any p xs ≡ true → any p (filter q xs) ≡ true
  any_kept p q s xs h = any_kept_is p q xs ∙ any_weaker p (λ x. q x && p x) (λ x k. and_from _ _ (s x k) k) xs h

  pub any_once : (t : X → Bool) (eq : X → X → Bool) → ((x y : X) → eq x y ≡ true → t y ≡ true → t x ≡ true) → (xs : List X) → any t xs ≡ true → any t (once eq xs) ≡ true
  any_once t eq s [] h = h
  any_once t eq s (x ∷ xs) h = go (any_once t eq s xs) (t x) refl h
    where
      go : (any t xs ≡ true → any t (once eq xs) ≡ true) → (b : Bool) → t x ≡ b → (b || any t xs) ≡ true → (t x || any t (filter (λ y. not (eq x y)) (once eq xs))) ≡ true
      go ih true e k = or_left _ _ e
      go ih false e k = or_right (t x) _ (any_kept t _ (λ y f. ap not (false_from (eq x y) (λ g. both_ways (t x) e (s x y g f)))) (once eq xs) (ih k))

module _ {X Y : Type 0} where
  pub all_joined : (F : Y → Type 0) (g : X → List Y) (xs : List X) → AllByRecursion (λ x. AllByRecursion F (g x)) xs → AllByRecursion F (flat_map g xs)
  all_joined F g [] f = tt
  all_joined F g (x ∷ xs) f = All-append F (g x) (flat_map g xs) f.0 (all_joined F g xs f.1)

  pub any_map : (q : Y → Bool) (f : X → Y) (xs : List X) → any q (map f xs) ≡ any (λ x. q (f x)) xs
  any_map q f [] = refl
  any_map q f (x ∷ xs) = ap (λ b. q (f x) || b) (any_map q f xs)

  pub any_joined : (q : Y → Bool) (g : X → List Y) (xs : List X) → any q (flat_map g xs) ≡ any (λ x. any q (g x)) xs
  any_joined q g [] = refl
  any_joined q g (x ∷ xs) = any_append q (g x) (flat_map g xs) ∙ ap (λ b. any q (g x) || b) (any_joined q g xs)
