-- Rules known by their numbers alone: in the place of a pattern stands the number of a rule that has it.
use Rattle.std.specs.Prelude.{◌≡◌, ℕ, ◌<◌, true, List, map, nat_eq}
use Rattle.std.specs.List.{AllByRecursion}
use Rattle.fields.specs.Lists.{any}
use Rattle.groups.specs.Rules.{Nesting, Rule}
use Rattle.groups.specs.Keys.{Combination, used, lies, keys}
use Rattle.groups.specs.Taking.{Sorted, sorted_by}
use Rattle.groups.specs.Theorems.{carry_key}

-- the rule of a number, which has that number for its patterns
abbrev pub numbered : ℕ → Rule (λ _. ℕ)
numbered n = record { number = n; at = λ _. n }

-- each of the numbers ns is one of ms
abbrev pub Among : List ℕ → List ℕ → Type 0
Among ms ns = AllByRecursion (λ n. any (nat_eq n) ms ≡ true) ns

module _ {P : ℕ → Type 0} (N : Nesting P) (rule : ℕ → Rule P) (M : Nesting (λ _. ℕ)) (ms : List ℕ) where
  -- of the rules of the numbers ms, M tells by number what N tells by pattern
  abbrev pub Agrees : Type 0
  Agrees = (i : ℕ) → i < 5 → AllByRecursion (λ n. AllByRecursion (λ m. M.within i n m ≡ N.within i ((rule n).at i) ((rule m).at i)) ms) ms

  -- the patterns that a combination of numbers stands for
  abbrev pub patterns : Combination (λ _. ℕ) 0 5 → Combination P 0 5
  patterns k = carry_key (λ i n. (rule n).at i) 0 5 k

  -- what was sorted by number, as rules with patterns
  abbrev pub as_rules : Sorted (λ _. ℕ) → Sorted P
  as_rules s = record { taken = map (λ r. rule r.number) s.taken; total = s.total; shelf = map (λ r. rule r.number) s.shelf }

  -- what is worked out by number is what is worked out by pattern
  pub record Lifted : Type 0 where
    pub uses : (ns : List ℕ) → Among ms ns → (i : ℕ) → i < 5 → used N i (map rule ns) ≡ map (λ n. (rule n).at i) (used M i (map numbered ns))
    pub has_keys : (ns : List ℕ) → Among ms ns → keys N (map rule ns) ≡ map patterns (keys M (map numbered ns))
    pub contains : (ns : List ℕ) → Among ms ns → AllByRecursion (λ k. AllByRecursion (λ n. lies N (patterns k) (rule n) ≡ lies M k (numbered n)) ms) (keys M (map numbered ns))
    pub sorts :
        (sub : Rule P → ℕ) (by : Rule (λ _. ℕ) → ℕ) → AllByRecursion (λ n. sub (rule n) ≡ by (numbered n)) ms → (t : ℕ) →
        sorted_by N sub t (map rule ms) ≡ as_rules (sorted_by M by t (map numbered ms))

abbrev pub IsByNumber : (ℕ → Type 0) → Type 0
IsByNumber P = (N : Nesting P) (rule : ℕ → Rule P) (M : Nesting (λ _. ℕ)) (ms : List ℕ) → Agrees N rule M ms → Lifted N rule M ms
