-- The keys of the rules that were taken into a subset.
use Rattle.std.specs.Prelude.{ℕ, zero, suc, Bool, true, not, ◌&&◌, List, [], ◌∷◌, map, filter}
use Rattle.std.specs.List.{flat_map}
use Rattle.fields.specs.Lists.{any, once}
use Rattle.levels.specs.Levels.{same}
use Rattle.groups.specs.Rules.{Nesting, Rule}

-- a combination: a pattern for each of the n places from place i on
abbrev pub Combination : (ℕ → Type 0) → ℕ → ℕ → Type 0
Combination P i zero = Unit {0}
Combination P i (suc n) = P i × Combination P (suc i) n

module _ {P : ℕ → Type 0} where
  abbrev pub combine : ((i : ℕ) → P i) → (i n : ℕ) → Combination P i n
  combine f i zero = tt
  combine f i (suc n) = (f i, combine f (suc i) n)

  -- all combinations of what f has at each place
  abbrev pub combinations : ((i : ℕ) → List (P i)) → (i n : ℕ) → List (Combination P i n)
  combinations f i zero = tt ∷ []
  combinations f i (suc n) = flat_map (λ p. map (λ k. (p, k)) (combinations f (suc i) n)) (f i)

  -- a test between two combinations at every place
  abbrev pub along : ((i : ℕ) → P i → P i → Bool) → (i n : ℕ) → Combination P i n → Combination P i n → Bool
  along q i zero k l = true
  along q i (suc n) k l = q i k.0 l.0 && along q (suc i) n k.1 l.1

module _ {P : ℕ → Type 0} (N : Nesting P) where
  -- the patterns that some rules use at a place, each once
  abbrev pub used : (i : ℕ) → List (Rule P) → List (P i)
  used i rs = once (same (N.within i)) (map (λ r. r.at i) rs)

  -- a combination lies within a rule at every place
  abbrev pub lies : Combination P 0 5 → Rule P → Bool
  lies k r = along N.within 0 5 k (combine r.at 0 5)

  -- all combinations of used patterns that lie within one of the rules
  abbrev pub keys : List (Rule P) → List (Combination P 0 5)
  keys rs = filter (λ k. any (lies k) rs) (combinations (λ i. used i rs) 0 5)

  -- two combinations are the same at every place
  abbrev pub same_key : Combination P 0 5 → Combination P 0 5 → Bool
  same_key k l = along (λ i. same (N.within i)) 0 5 k l

  -- a key that is not the five patterns of a rule
  abbrev pub pseudo : List (Rule P) → Combination P 0 5 → Bool
  pseudo rs k = not (any (λ r. same_key k (combine r.at 0 5)) rs)
