-- Sets of rule numbers, from 0 to 255: number n is bit n % 64 of word n / 64.
use Rattle.std.specs.Prelude.{ℕ, ◌/◌, ◌%◌, ◌^◌, Bool, List, replicate, filter, ◌==◌, slice_index, refl}
use Rattle.std.specs.List.{range_with_len}
use Rattle.rulesets.specs.declared.ruleset.RuleSet.{RuleSet}

-- the set of no numbers
abbrev pub none : RuleSet
none = record { words = replicate 4 0; sized = refl }

-- the number n is in the set
unfoldable pub has : RuleSet → ℕ → Bool
has s n = slice_index s.words (n / 64) / 2 ^ (n % 64) % 2 == 1

-- the numbers in the set, ascending
unfoldable pub members : RuleSet → List ℕ
members s = filter (has s) (range_with_len 0 256)
