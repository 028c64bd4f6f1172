-- A subset's key for a header tells which of its rules match.
use Rattle.std.proofs.Common.{◌≡◌, ℕ, ◌≤◌, Bool, true, ◌&&◌, ◌||◌, List, [], ◌∷◌, map, length, filter, sym, refl, ap, ◌∙◌, inl, inr}
use mathlib.Core.Path.{fun_ext}
use mathlib.Core.Bool.{false≢true}
use Rattle.std.specs.List.{ContainsAt as Has, AllByRecursion}
use Rattle.std.proofs.lemmas.Bool.{and_from, and_parts, or_cases, or_right}
use Rattle.std.proofs.ByRecursion.{all_kept_by, kept_by_passes, All-weaker, all-has, all_has_itself}
use Rattle.fields.specs.Lists.{any, all}
use Rattle.levels.specs.Levels.{same}
use Rattle.groups.specs.Lists.{every}
use Rattle.groups.specs.Rules.{Nesting, Rule}
use Rattle.groups.specs.Keys.{Combination, combine, combinations, used, lies, keys, same_key}
use Rattle.groups.specs.Headers.{meets, own, key, hit}
use Rattle.groups.specs.Theorems.{Nests, Fits, KeyTells}
use Rattle.groups.proofs.Tests.{iff, Found, all_found, all_with, all_is, any_out, any_on, any_weaker, any_kept}
use Rattle.groups.proofs.Apart.{apart_kept, apart_once, few_alike}
use Rattle.groups.proofs.Combinations.{all_combinations, any_along, found_along, few_combinations, along_self, along_trans}
use Rattle.groups.proofs.OneTuple.{same_itself, used_found}

-- of things of which always one lies within the other one lies within all
module _ {X : Type 0} (w : X → X → Bool) (self : (a : X) → w a a ≡ true) (trans : (a b c : X) → w a b ≡ true → w b c ≡ true → w a c ≡ true) (M : X → Type 0) (nested : (a b : X) → M a → M b → (w a b || w b a) ≡ true) where
  least : (x : X) (xs : List X) → AllByRecursion M (x ∷ xs) → any (λ p. all (w p) (x ∷ xs)) (x ∷ xs) ≡ true
  least x [] m = let e = self x in rw e refl
  least x (y ∷ ys) m =
      let ys⁺ = y ∷ ys in
      any_out (λ p. M p × Found ys⁺ p) (λ p. all (w p) ys⁺) _
      (λ p f h. elim (or_cases _ _ (nested p x f.0 m.0)) [
        | inl px ↦ or_right _ _ (f.1 (λ q. all (w q) (x ∷ ys⁺)) (and_from _ _ px h))
        | inr xp ↦ (all_found (x ∷ ys⁺)).0 (λ q. all (w q) (x ∷ ys⁺)) (and_from _ _ (self x) ((all_is (w x) ys⁺).1 (All-weaker _ (λ z. w x z ≡ true) (λ z. trans x p z xp) ys⁺ ((all_is (w p) ys⁺).0 h))))
      ])
      ys⁺ (all_with M (Found ys⁺) (λ p. M p × Found ys⁺ p) (λ p a b. (a, b)) ys⁺ m.1 (all_found ys⁺)) (least y ys m.1)

  any_least : (t : X → Bool) (xs : List X) → AllByRecursion M xs → any t xs ≡ true → any (λ p. all (w p) xs) xs ≡ true
  any_least t [] m h = absurd (false≢true h)
  any_least t (x ∷ xs) m h = least x xs m

module _ {P V : ℕ → Type 0} (N : Nesting P) (L : Nests N) (matches : (i : ℕ) → P i → V i → Bool) (F : Fits N matches) (v : (i : ℕ) → V i) (rs : List (Rule P)) where
  -- the patterns in use that match
  abbrev ms : (i : ℕ) → List (P i)
  ms i = filter (λ p. matches i p (v i)) (used N i rs)

  ms_match : (i : ℕ) → AllByRecursion (λ p. matches i p (v i) ≡ true) (ms i)
  ms_match i = kept_by_passes (λ p. matches i p (v i)) (used N i rs)

  place : (q : Rule P) → Found rs q → (i : ℕ) → any (λ p. N.within i p (q.at i)) (own N matches v rs i) ≡ matches i (q.at i) (v i)
  place q f i = iff _ _
      (λ h. any_out (λ p. matches i p (v i) ≡ true) _ _ (λ p m w. F.wider i p (q.at i) (v i) w m) (own N matches v rs i) (all_kept_by _ _ _ (ms_match i)) h)
      (λ m.
      let B : P i → Bool = λ p. all (N.within i p) (ms i) in
      let near : any (λ p. same (N.within i) p (q.at i)) (ms i) ≡ true = any_kept _ _ (λ p s. F.wider i (q.at i) p (v i) (and_parts (N.within i p (q.at i)) _ s).1 m) _ (used_found N L rs q f i) in
      let inmost : any B (ms i) ≡ true = any_least (N.within i) (L.itself i) (L.trans i) (λ p. matches i p (v i) ≡ true) (λ a b. F.nested i a b (v i)) _ (ms i) (ms_match i) near in
      any_weaker B _
      (λ p h. any_out (λ s. N.within i p s ≡ true) (λ s. same (N.within i) s (q.at i)) _ (λ s w e. L.trans i p s (q.at i) w (and_parts _ _ e).0) (ms i) ((all_is (N.within i p) (ms i)).0 h) near) _
      (any_kept B B (λ p h. h) (ms i) inmost))

  each : AllByRecursion (λ r. meets N matches v r ≡ any (λ k. lies N k r) (key N matches v rs)) rs
  each = All-weaker (Found rs) _ (λ q f. sym (any_along (λ i x y. N.within i y x) (own N matches v rs) 5 0 (combine q.at 0 5) ∙ ap (λ t. every t 0 5) (fun_ext (place q f)))) rs (all_found rs)

  few_own : (i : ℕ) → length (own N matches v rs i) ≤ 1
  few_own i =
      let G : P i → Type 0 = λ p. Has (ms i) p × AllByRecursion (λ q. N.within i p q ≡ true) (ms i) in
      few_alike (same (N.within i)) G (λ a b f g. and_from _ _ (all-has _ (ms i) b f.1 g.0) (all-has _ (ms i) a g.1 f.0)) (own N matches v rs i)
      (all_with (Has (ms i)) (λ p. all (N.within i p) (ms i) ≡ true) G (λ p a b. (a, (all_is (N.within i p) (ms i)).0 b)) _ (all_kept_by _ (Has (ms i)) (ms i) (all_has_itself (ms i))) (kept_by_passes (λ p. all (N.within i p) (ms i)) (ms i)))
      (apart_kept (same (N.within i)) _ (ms i) (apart_kept (same (N.within i)) (λ p. matches i p (v i)) (used N i rs) (apart_once (same (N.within i)) (map (λ r. r.at i) rs))))

  -- a combination of patterns in use is among the keys exactly if it lies within a rule
  key_is : (k : Combination P 0 5) → Found (combinations (λ i. used N i rs) 0 5) k → any (same_key N k) (keys N rs) ≡ any (lies N k) rs
  key_is k f = iff _ _
      (λ h. any_out (λ l. any (lies N l) rs ≡ true) (same_key N k) _
      (λ l g a. any_weaker (lies N l) (lies N k) (λ q. along_trans (λ i. same (N.within i)) N.within N.within (λ i x y z b. L.trans i x y z (and_parts _ _ b).0) 5 0 k l (combine q.at 0 5) a) rs g)
      (keys N rs) (kept_by_passes (λ l. any (lies N l) rs) _) h)
      (λ h.
      let t : Combination P 0 5 → Bool = λ l. same_key N k l && any (lies N l) rs in
      any_weaker t (same_key N k) (λ l b. (and_parts _ _ b).0) (keys N rs)
      (any_kept t _ (λ l b. (and_parts (same_key N k l) _ b).1) _ (f t (and_from _ _ (along_self (λ i. same (N.within i)) (same_itself N L) 5 0 k) h))))

  -- the key is of patterns in use
  key_found : AllByRecursion (λ k. Found (combinations (λ i. used N i rs) 0 5) k × Found (key N matches v rs) k) (key N matches v rs)
  key_found =
      all_with _ (Found (key N matches v rs)) _ (λ k a b. (found_along (λ i. used N i rs) 5 0 k a, b)) (key N matches v rs)
      (all_combinations (λ i. Found (used N i rs)) (own N matches v rs) 5 0 (λ i _. all_kept_by _ _ _ (all_kept_by _ _ _ (all_found (used N i rs))))) (all_found (key N matches v rs))

  hits : hit N matches v rs ≡ any (meets N matches v) rs
  hits = iff _ _
      (λ h. any_out _ _ _
      (λ k f e. any_on _ (lies N k) (meets N matches v) (λ q m l. m ∙ f.1 (λ j. lies N j q) l) rs each (sym (key_is k f.0) ∙ e))
      (key N matches v rs) key_found h)
      (λ h. any_out (λ q. Found rs q × (meets N matches v q ≡ any (λ l. lies N l q) (key N matches v rs))) (meets N matches v) _
      (λ q f m. any_on _ (λ k. lies N k q) _ (λ k g l. key_is k g.0 ∙ f.0 (lies N k) l) (key N matches v rs) key_found (sym f.1 ∙ m))
      rs (all_with (Found rs) _ _ (λ q a b. (a, b)) rs (all_found rs) each) h)

pub key_tells_lem : {P V : ℕ → Type 0} → KeyTells P V
key_tells_lem N L matches F v rs = record { each = each N L matches F v rs; one = few_combinations _ (few_own N L matches F v rs) 5 0; hits = hits N L matches F v rs }
