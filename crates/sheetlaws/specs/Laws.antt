-- The laws of the format, above what reading and writing do.
use Rattle.std.specs.Prelude.{◌≡◌, ℕ, ◌<◌, ◌≤◌, List, length}
use Rattle.std.specs.List.{AllByRecursion}
use Rattle.sheets.specs.Format.{Sheet}
use Rattle.sheets.specs.Reading.{accepted, sheet_read, stop, StopsAt}
use Rattle.sheets.specs.declared.row.RuleRow.{RuleRow}

-- the sheet of a rule list is read as these rules, wherever they have places
abbrev pub WrittenIsRead : Type 0
WrittenIsRead = (bytes : List ℕ) (rs : List RuleRow) (places : ℕ) → Sheet bytes rs → length rs ≤ places → sheet_read bytes places ≡ accepted rs

-- bytes that are read as rules are the sheet of these rules, and of no others
pub record ReadAs (bytes : List ℕ) (rs : List RuleRow) (places : ℕ) : Type 0 where
  pub sheet : Sheet bytes rs
  pub room : length rs ≤ places
  pub only : (other : List RuleRow) → Sheet bytes other → other ≡ rs

abbrev pub ReadIsWritten : Type 0
ReadIsWritten =
    (bytes : List ℕ) (rs : List RuleRow) (places : ℕ) → AllByRecursion (λ b. b < 256) bytes → sheet_read bytes places ≡ accepted rs → ReadAs bytes rs places

-- reading stops at the first word that is out of order or ends the sheet
abbrev pub StopsFirst : Type 0
StopsFirst = (ws : List ℕ) → StopsAt ws (stop ws 0 (length ws))
