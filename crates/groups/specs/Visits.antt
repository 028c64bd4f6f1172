-- The keys of some rules place by place. A pattern chosen at one place leaves the rules that still contain what was chosen; where none is left,
-- nothing is chosen further on.
use Rattle.std.specs.Prelude.{ℕ, zero, suc, List, [], ◌∷◌, map, filter}
use Rattle.std.specs.List.{flat_map}
use Rattle.groups.specs.Rules.{Nesting, Rule}
use Rattle.groups.specs.Keys.{Combination}

module _ {P : ℕ → Type 0} (N : Nesting P) where
  -- the rules that contain the pattern p at place i
  abbrev pub containing : (i : ℕ) → P i → List (Rule P) → List (Rule P)
  containing i p rs = filter (λ r. N.within i p (r.at i)) rs

  -- the combinations of the n places from place i on, chosen from what `from` has at each place, that lie within one of the rules; each with
  -- the rules that it lies within
  abbrev pub visits : ((i : ℕ) → List (P i)) → (i n : ℕ) → List (Rule P) → List (Combination P i n × List (Rule P))
  visits from i zero [] = []
  visits from i (suc n) [] = []
  visits from i zero (r ∷ rs) = (tt, r ∷ rs) ∷ []
  visits from i (suc n) (r ∷ rs) =
      flat_map (λ p. map (λ v. ((p, v.0), v.1)) (visits from (suc i) n (containing i p (r ∷ rs)))) (from i)
