-- What the writing of a rule list comes to.
use Rattle.std.specs.Prelude.{ℕ, cond, List, ◌++◌, length, drop, Some, None, Option, nat_lt}
use Rattle.sheets.specs.Rows.{rows_refusal, or_else}
use Rattle.sheets.specs.Format.{sheet_bytes}
use Rattle.sheets.specs.declared.row.RuleRow.{RuleRow}

-- the rules one after another, then the room
abbrev pub write_refusal : List RuleRow → ℕ → Option ℕ
write_refusal rs places = or_else (rows_refusal 0 rs) (cond (nat_lt places (length (sheet_bytes rs))) (Some 9) None)

-- what the output holds then
abbrev pub written : Option ℕ → List RuleRow → List ℕ → List ℕ
written (Some n) rs out = out
written None rs out = sheet_bytes rs ++ drop (length (sheet_bytes rs)) out
