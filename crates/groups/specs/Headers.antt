-- What a header means for the rules of a subset. V i are the header values of place i, and v is the header.
use Rattle.std.specs.Prelude.{ℕ, Bool, List, length, filter, ◌==◌}
use Rattle.fields.specs.Lists.{any}
use Rattle.levels.specs.Levels.{innermost}
use Rattle.groups.specs.Lists.{every}
use Rattle.groups.specs.Rules.{Nesting, Rule}
use Rattle.groups.specs.Keys.{Combination, combinations, used, keys, lies, same_key}

module _ {P V : ℕ → Type 0} (N : Nesting P) (matches : (i : ℕ) → P i → V i → Bool) (v : (i : ℕ) → V i) where
  -- a rule matches when all five patterns do
  abbrev pub meets : Rule P → Bool
  meets r = every (λ i. matches i (r.at i) (v i)) 0 5

  -- the subset's own most specific matching pattern at a place: one or none
  abbrev pub own : List (Rule P) → (i : ℕ) → List (P i)
  own rs i = innermost (N.within i) (filter (λ p. matches i p (v i)) (used N i rs))

  -- the subset's key for the header: one, or none where it is pruned
  abbrev pub key : List (Rule P) → List (Combination P 0 5)
  key rs = combinations (own rs) 0 5

  abbrev pub pruned : List (Rule P) → Bool
  pruned rs = length (key rs) == 0

  abbrev pub hit : List (Rule P) → Bool
  hit rs = any (λ k. any (same_key N k) (keys N rs)) (key rs)

  -- the rules that a hit yields
  abbrev pub yields : List (Rule P) → List (Rule P)
  yields rs = filter (λ r. any (λ k. lies N k r) (key rs)) rs
