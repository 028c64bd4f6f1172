-- The keys of some rules, place by place.
use Rattle.std.proofs.Common.{◌≡◌, ℕ, zero, suc, Bool, List, [], ◌∷◌, ◌++◌, map, filter, sym, refl, ap, ◌∙◌}
use mathlib.Core.Path.{fun_ext}
use mathlib.Core.List.{map-map}
use Rattle.std.specs.List.{flat_map, AllByRecursion}
use Rattle.std.proofs.lemmas.List.Elements.{filter-append}
use Rattle.std.proofs.ByRecursion.{All-map, All-weaker}
use Rattle.fields.specs.Lists.{any}
use Rattle.levels.proofs.Counts.{everywhere, kept_none, kept_all, kept_twice}
use Rattle.groups.specs.Rules.{Nesting, Rule}
use Rattle.groups.specs.Keys.{Combination, combine, combinations, along, used}
use Rattle.groups.specs.Visits.{containing, visits}
use Rattle.groups.specs.Theorems.{PlaceByPlace}
use Rattle.groups.proofs.Tests.{all_joined, any_kept_is}
use Rattle.groups.proofs.Carry.{kept_map, map_joined}

kept_joined : {X Y : Type 0} (t : Y → Bool) (g : X → List Y) (xs : List X) → filter t (flat_map g xs) ≡ flat_map (λ x. filter t (g x)) xs
kept_joined t g [] = refl
kept_joined t g (x ∷ xs) = filter-append t (g x) (flat_map g xs) ∙ ap (λ l. filter t (g x) ++ l) (kept_joined t g xs)

module _ {P : ℕ → Type 0} (N : Nesting P) where
  -- a combination of the n places from place i on lies within a rule there
  abbrev pub lies_from : (i n : ℕ) → Combination P i n → Rule P → Bool
  lies_from i n k r = along N.within i n k (combine r.at i n)

  module _ (from : (i : ℕ) → List (P i)) where
    -- the combinations that are met
    pub visits_keys : (n i : ℕ) (rs : List (Rule P)) → map (λ v. v.0) (visits N from i n rs) ≡ filter (λ k. any (lies_from i n k) rs) (combinations from i n)
    visits_keys zero i [] = refl
    visits_keys zero i (r ∷ rs) = refl
    visits_keys (suc n) i [] = sym (kept_none _ (λ _. refl) (combinations from i (suc n)))
    visits_keys (suc n) i (r ∷ rs) =
        let rest = combinations from (suc i) n in
        map_joined (λ v. v.0) _ (from i)
        ∙ ap (λ h. flat_map h (from i)) (fun_ext (λ p.
        let met = visits N from (suc i) n (containing N i p (r ∷ rs)) in
        map-map (λ v. v.0) (λ v. ((p, v.0), v.1)) met
        ∙ sym (map-map (λ k. (p, k)) (λ v. v.0) met)
        ∙ ap (map (λ k. (p, k))) (visits_keys n (suc i) (containing N i p (r ∷ rs)) ∙ ap (λ t. filter t rest) (fun_ext (λ k. any_kept_is (lies_from (suc i) n k) (λ q. N.within i p (q.at i)) (r ∷ rs))))
        ∙ sym (kept_map (λ k. (p, k)) (λ k. any (lies_from i (suc n) k) (r ∷ rs)) rest)))
        ∙ sym (kept_joined (λ k. any (lies_from i (suc n) k) (r ∷ rs)) (λ p. map (λ k. (p, k)) rest) (from i))

    -- each with the rules that it lies within
    pub visits_rules : (n i : ℕ) (rs : List (Rule P)) → AllByRecursion (λ v. v.1 ≡ filter (lies_from i n v.0) rs) (visits N from i n rs)
    visits_rules zero i [] = tt
    visits_rules zero i (r ∷ rs) = (sym (kept_all _ (r ∷ rs) (everywhere _ (λ _. refl) (r ∷ rs))), tt)
    visits_rules (suc n) i [] = tt
    visits_rules (suc n) i (r ∷ rs) =
        all_joined _ _ (from i) (everywhere _ (λ p.
        All-map _ (λ v. ((p, v.0), v.1)) _
        (All-weaker _ (λ v. v.1 ≡ filter (lies_from i (suc n) (p, v.0)) (r ∷ rs)) (λ v e. e ∙ kept_twice (lies_from (suc i) n v.0) (λ q. N.within i p (q.at i)) (r ∷ rs)) _ (visits_rules n (suc i) (containing N i p (r ∷ rs))))) (from i))

pub place_by_place_lem : {P : ℕ → Type 0} → PlaceByPlace P
place_by_place_lem N rs = record { keys = visits_keys N (λ i. used N i rs) 5 0 rs; rules = visits_rules N (λ i. used N i rs) 5 0 rs }
