-- The levels of a tuple as a list.
use Rattle.std.specs.Prelude.{ℕ, ◌≤◌, List}
use Rattle.fields.specs.Places.{at}
use Rattle.fields.specs.declared.numbers.Level.{Level}
use Rattle.fields.specs.declared.perfield.PerField.{PerField}
use Rattle.groups.specs.Lists.{line}

-- in the order of the places
abbrev pub level_list : PerField Level → List ℕ
level_list t = line (λ i. (at t i).around) 0 5

-- no level is above 256: a field has at most 257 marked patterns
abbrev pub Low : PerField Level → Type 0
Low t = ((at t 0).around ≤ 256) × ((at t 1).around ≤ 256) × ((at t 2).around ≤ 256) × ((at t 3).around ≤ 256) × ((at t 4).around ≤ 256)
