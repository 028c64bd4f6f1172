-- What the listing of a file that should be a rule sheet says.
use Rattle.std.specs.Prelude.{ℕ, cond, List, length, nat_lt}
use Rattle.sheets.specs.Reading.{Verdict, accepted, refused, fault, sheet_read}
use Rattle.texts.specs.Text.{rules_lines, fault_text, line}

-- a line for each rule, or one with the fault
abbrev pub verdict_text : Verdict → List ℕ
verdict_text (accepted rs) = rules_lines rs
verdict_text (refused n i l) = line (fault_text n i l)

-- a file of over 65,536 bytes is not looked into; a sheet has at most 256 rules
abbrev pub sheet_text : List ℕ → List ℕ
sheet_text bytes = cond (nat_lt 65536 (length bytes)) (verdict_text (fault 9 0)) (verdict_text (sheet_read bytes 256))
