-- What is printed of a sheet, by what the reader answers.
use Rattle.std.proofs.Common.{◌≡◌, ℕ, ◌-◌, ◌≤◌, List, length, take, sym, ap, ◌∙◌, arith}
use Rattle.std.proofs.lemmas.Bool.{cond-false, le-ltb}
use Rattle.fields.specs.Refusals.{code}
use Rattle.sheets.specs.Reading.{refused, sheet_read}
use Rattle.sheets.specs.declared.row.RuleRow.{RuleRow}
use Rattle.sheets.specs.declared.fault.Fault.{Fault}
use Rattle.sheets.proofs.Verdicts.{Taken}
use Rattle.texts.specs.Text.{rules_lines, fault_text, line}
use Rattle.listing.specs.Listing.{verdict_text, sheet_text}

-- a file that is not too long is read
module _ (bytes : List ℕ) (short : length bytes ≤ 65536) where
  read : sheet_text bytes ≡ verdict_text (sheet_read bytes 256)
  read = cond-false _ _ _ (le-ltb 65536 (length bytes) short)

  pub rules_text : (n : ℕ) (list : List RuleRow) → Taken (sheet_read bytes 256) n list → rules_lines (take (n - 0) list) ≡ sheet_text bytes
  rules_text n list t =
      let e : n - 0 ≡ n = omega arith in
      ap (λ (k : ℕ). rules_lines (take k list)) e ∙ sym (read ∙ ap verdict_text t.rules)

  pub fault_line_lem : (f : Fault) → sheet_read bytes 256 ≡ refused (code f.refusal) f.place f.layer → line (fault_text (code f.refusal) f.place f.layer) ≡ sheet_text bytes
  fault_line_lem f e = sym (read ∙ ap verdict_text e)
