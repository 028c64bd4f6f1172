-- Tuples, heads and subsets. The standing rules rs stand in ascending number.
use Rattle.std.specs.Prelude.{ℕ, suc, ◌+◌, ◌-◌, Bool, cond, List, [], ◌∷◌, map, length, filter, ◌==◌, nat_le}
use Rattle.fields.specs.Lists.{all, once}
use Rattle.levels.specs.Levels.{level}
use Rattle.groups.specs.Lists.{chosen, line}
use Rattle.groups.specs.Rules.{Nesting, Rule}

-- the sum of the absolute differences of two tuples' levels; all tuples have five
abbrev pub distance : List ℕ → List ℕ → ℕ
distance [] [] = 0
distance [] (u ∷ us) = 1
distance (t ∷ ts) [] = 1
distance (t ∷ ts) (u ∷ us) = (t - u) + (u - t) + distance ts us

abbrev pub equal : List ℕ → List ℕ → Bool
equal t u = distance t u == 0

-- the place of the nearest of some heads, of several the first
abbrev pub nearest_head : List ℕ → List (List ℕ) → ℕ
nearest_head t [] = 0
nearest_head t (h ∷ hs) = cond (all (λ u. nat_le (distance t h) (distance t u)) hs) 0 (suc (nearest_head t hs))

module _ {P : ℕ → Type 0} (N : Nesting P) (rs : List (Rule P)) where
  -- the nested level of a pattern of place i
  abbrev pub level_at : (i : ℕ) → P i → ℕ
  level_at i p = level (N.within i) (N.whole i) (map (λ r. r.at i) rs) p

  abbrev pub tuple : Rule P → List ℕ
  tuple r = line (λ i. level_at i (r.at i)) 0 5

  -- the tuples that are met, each once, in order of the lowest number that has it
  abbrev pub tuples : List (List ℕ)
  tuples = once equal (map tuple rs)

  -- how many rules have a tuple
  abbrev pub population : List ℕ → ℕ
  population t = length (filter (λ r. equal t (tuple r)) rs)

  -- until there are g or no tuple is left, the tuple with most rules, of several the one with the lowest number
  abbrev pub heads : ℕ → List (List ℕ)
  heads g = chosen population g tuples

  -- the subset that a rule's tuple joins: its own where it is a head, since that is at distance 0
  abbrev pub subset : ℕ → Rule P → ℕ
  subset g r = nearest_head (tuple r) (heads g)
