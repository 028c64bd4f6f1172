-- What the reading of its words tells of a sheet.
use Rattle.std.proofs.Common.{◌≡◌, ℕ, ◌/◌, ◌%◌, false, eqb, List, length, MatchResult, Ok, Err, Result, sym, ap, ◌∙◌}
use Rattle.std.specs.Simd.{first_chunks}
use Rattle.std.proofs.lemmas.Bool.{eq-eqb, le-leb, or_from, not_from_true, cond-true, cond-false}
use Rattle.sheets.specs.Reading.{Verdict, accepted, words_read, sheet_read}
use Rattle.sheets.specs.declared.row.RuleRow.{RuleRow}
use Rattle.sheets.specs.declared.fault.Fault.{Fault}
use Rattle.reader.specs.Readers.{words_of, ComesTo, faulty, Fills, FillsFrom}
use Rattle.reader.proofs.Bytes.{words_of_chunks}

-- the bytes are whole words, and some
module _ (bs : List ℕ) (some : eqb (length bs) 0 ≡ false) (whole : length bs % 4 ≡ 0) where
  abbrev chunks : List (List ℕ)
  chunks = first_chunks 4 (length bs / 4) bs

  sheet_comes_to : (v : ℕ → Verdict) → ComesTo (words_of chunks) v → (places : ℕ) → sheet_read bs places ≡ v places
  unfolding ComesTo
  sheet_comes_to v h places =
      cond-false _ _ _ (or_from _ _ some (not_from_true _ (eq-eqb (length bs % 4) 0 whole)))
      ∙ ap (λ (ws : List ℕ). words_read ws places) (sym (words_of_chunks bs)) ∙ h places

  pub told : {X : Type 0} (rs : List RuleRow) (r : Result X Fault) → Fills (words_of chunks) rs r → FillsFrom bs rs r
  told rs (Ok u) h = sheet_comes_to _ h.0
  told rs (Err f) h = sheet_comes_to _ h

-- there is room for as many rules as a sheet can have
pub told_here : {X : Type 0} (cs : List ℕ) (bs : List ℕ) (rs : List RuleRow) (r : Result X Fault) → Fills cs rs r → FillsFrom bs rs r
    → MatchResult r (λ u. sheet_read bs 256 ≡ accepted rs) (λ f. sheet_read bs 256 ≡ faulty f)
told_here cs bs rs (Ok u) h t = t 256 ∙ cond-true _ _ _ (le-leb (length rs) 256 h.1)
told_here cs bs rs (Err f) h t = t 256
