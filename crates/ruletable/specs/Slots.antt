-- The rules that a table of 256 slots holds, one slot for each number.
use Rattle.std.specs.Prelude.{ℕ, suc, List, [], ◌∷◌, Some, None, Option}
use Rattle.fields.specs.declared.perfield.PerField.{PerField}
use Rattle.sheets.specs.declared.row.PatternRow.{PatternRow}
use Rattle.sheets.specs.declared.row.RuleRow.{RuleRow}
use Rattle.sheets.specs.Fields.{row_of}

-- the rows of the slots from the number i on
abbrev pub rows_from : ℕ → List (Option (PerField PatternRow)) → List RuleRow
rows_from i [] = []
rows_from i (None ∷ s) = rows_from (suc i) s
rows_from i (Some p ∷ s) = row_of i p ∷ rows_from (suc i) s

-- the standing rules, in ascending number
abbrev pub rows : List (Option (PerField PatternRow)) → List RuleRow
rows s = rows_from 0 s

-- the row in a slot
abbrev pub row_in : ℕ → Option (PerField PatternRow) → Option RuleRow
row_in n None = None
row_in n (Some p) = Some (row_of n p)
