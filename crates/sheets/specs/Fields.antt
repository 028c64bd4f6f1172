-- A row as a number and five parts.
use Rattle.std.specs.Prelude.{ℕ}
use Rattle.fields.specs.declared.perfield.PerField.{PerField}
use Rattle.sheets.specs.declared.row.PatternRow.{PatternRow}
use Rattle.sheets.specs.declared.row.RuleRow.{RuleRow}

-- the row of a number and five parts
abbrev pub row_of : ℕ → PerField PatternRow → RuleRow
row_of n p = record { number = n; addresses = p.addresses; ports = p.ports; protocol = p.protocol }

-- the five parts of a row
abbrev pub parts_of : RuleRow → PerField PatternRow
parts_of r = record { addresses = r.addresses; ports = r.ports; protocol = r.protocol }
