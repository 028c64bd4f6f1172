-- Tuples with the number of rules that have each.
use Rattle.std.specs.Prelude.{◌≡◌, ℕ, List, map, length, filter}
use Rattle.fields.specs.Lists.{once}
use Rattle.groups.specs.Lists.{chosen}
use Rattle.groups.specs.Tuples.{equal}
use Rattle.heads.specs.Levels.{level_list}
use Rattle.heads.specs.declared.counted.Counted.{Counted}
use Rattle.heads.specs.declared.tuple.Tuple.{Tuple}

abbrev pub levels_of : Tuple → List ℕ
levels_of t = level_list t.levels

-- how often a tuple stands in a list
abbrev pub population_in : List (List ℕ) → List ℕ → ℕ
population_in ts t = length (filter (equal t) ts)

-- ts are the tuples of all rules: each is counted once, where it stands first, with the number of rules that have it
pub record Counts (ts : List (List ℕ)) (cs : List Counted) : Type 0 where
  pub tuples : map (λ c. levels_of c.tuple) cs ≡ once equal ts
  pub rules : map (λ c. c.rules) cs ≡ map (population_in ts) (once equal ts)

-- the heads among the tuples of all rules
abbrev pub heads_in : List (List ℕ) → ℕ → List (List ℕ)
heads_in ts g = chosen (population_in ts) g (once equal ts)
