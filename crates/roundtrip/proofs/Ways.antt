-- The way there and the way back.
use Rattle.std.proofs.Common.{◌≡◌, ℕ, ◌-◌, ◌<◌, ◌≤◌, List, ◌++◌, length, get_or, take, drop, Fits, w8, IfOk, None, Ok, Err, Option, Result, sym, ap, ◌∙◌, arith}
use Rattle.std.proofs.lemmas.List.{take_at}
use Rattle.std.proofs.ByRecursion.{All-from_get_or}
use Rattle.fields.specs.Refusals.{refusal}
use Rattle.fields.specs.declared.refusal.Refusal.{Refusal}
use Rattle.sheets.specs.Rows.{rows_refusal}
use Rattle.sheets.specs.Format.{Sheet, sheet_bytes}
use Rattle.sheets.specs.Writing.{write_refusal, written}
use Rattle.sheets.specs.Reading.{accepted, Answers, listed, sheet_read}
use Rattle.sheets.specs.declared.row.RuleRow.{RuleRow}
use Rattle.sheets.proofs.Rows.{neither}
use Rattle.sheets.proofs.Verdicts.{taken}
use Rattle.sheetlaws.specs.Laws.{WrittenIsRead, ReadIsWritten}
use Rattle.roundtrip.specs.Trips.{Rewritten, rewrite_refusal}

-- the bytes of a rule list that was written are read as these rules
pub reads_back : WrittenIsRead → (rules : List RuleRow) (before after : List ℕ) (size places : ℕ)
    → None ≡ write_refusal rules (length before) → after ≡ written (write_refusal rules (length before)) rules before → size ≡ length (sheet_bytes rules) → length rules ≤ places
    → sheet_read (take (size - 0) after) places ≡ accepted rules
reads_back law rules before after size places ok e count room =
    let z : length (sheet_bytes rules) ≡ size - 0 = omega arith in
    let out = e ∙ ap (λ (o : Option ℕ). written o rules before) (sym ok) in
    let t = ap (take (size - 0)) out ∙ take_at (sheet_bytes rules) (drop (length (sheet_bytes rules)) before) (size - 0) z in
    law (take (size - 0) after) rules places (record { ordered = (neither (rows_refusal 0 rules) _ (sym ok)).0; written = t }) room

module _ (law : ReadIsWritten) (bytes : List ℕ) (places n : ℕ) (before after : List RuleRow) (small : (i : ℕ) → Fits w8 (get_or bytes i 0)) (answer : Answers (sheet_read bytes places) (Ok n)) (list : after ≡ listed (sheet_read bytes places) before) where
  read : sheet_read bytes places ≡ accepted (take (n - 0) after)
  read = let e : n - 0 ≡ n = omega arith in rw e ((taken (sheet_read bytes places) n before after answer list).rules)

  sheet : Sheet bytes (take (n - 0) after)
  sheet = (law bytes _ places (All-from_get_or (λ b. b < 256) bytes 0 (λ i h. (small i).fits)) read).sheet

  -- writing the rules that were read, of which there are n, is refused for want of room alone
  pub again : (r : Result ℕ Refusal) (room : ℕ) → refusal r ≡ write_refusal (take (n - 0) after) room → refusal r ≡ rewrite_refusal (sheet_read bytes places) (length bytes) room
  again r room h = rw (read, sheet.written) (h ∙ rw sheet.ordered)

  pub same_bytes : (r : Result ℕ Refusal) (out out' : List ℕ) → refusal r ≡ write_refusal (take (n - 0) after) (length out) → IfOk r (λ k. k ≡ length (sheet_bytes (take (n - 0) after)))
      → out' ≡ written (write_refusal (take (n - 0) after) (length out)) (take (n - 0) after) out → IfOk r (λ k. Rewritten bytes out out' k)
  same_bytes (Err f) out out' a c e = tt
  same_bytes (Ok k) out out' a c e = record {
    counted = c ∙ ap length (sym sheet.written);
    same = e ∙ ap (λ (o : Option ℕ). written o (take (n - 0) after) out) (sym a) ∙ ap (λ (bs : List ℕ). bs ++ drop (length bs) out) (sym sheet.written);
  }
