-- The bytes of a sheet, and what its writing comes to.
use Rattle.std.proofs.Common.{◌≡◌, ℕ, ◌+◌, ◌*◌, ◌^◌, List, [], ◌∷◌, ◌++◌, length, sym, refl, ap, ◌∙◌, arith}
use Rattle.std.proofs.lemmas.List.{length_push, flat_map_more}
use Rattle.std.specs.List.{flat_map}
use Rattle.sheets.specs.Words.{word_bytes}
use Rattle.sheets.specs.Format.{rule_words, sheet_words, sheet_bytes}
use Rattle.sheets.specs.declared.row.RuleRow.{RuleRow}
use Rattle.octets.proofs.Puts.{length_joined}

-- the bytes of one rule
abbrev pub rule_bytes : RuleRow → List ℕ
rule_bytes r = flat_map word_bytes (rule_words r)

abbrev end : List RuleRow → ℕ
end rs = 6 * 2 ^ 29 + length rs

pub length_sheet : (rs : List RuleRow) → length (sheet_bytes rs) ≡ 32 * length rs + 4
length_sheet rs =
    let bytes = length_joined word_bytes 4 (λ w. refl) (sheet_words rs) in
    let words = length_push (flat_map rule_words rs) (end rs) in
    let rules = length_joined rule_words 8 (λ r. refl) rs in
    omega arith

bytes_by_rule : (rs : List RuleRow) → flat_map word_bytes (flat_map rule_words rs) ≡ flat_map rule_bytes rs
bytes_by_rule [] = refl
bytes_by_rule (r ∷ rs) = ap (λ (bs : List ℕ). rule_bytes r ++ bs) (bytes_by_rule rs)

-- the rules, then the end word
pub sheet_by_rule : (rs : List RuleRow) → sheet_bytes rs ≡ flat_map rule_bytes rs ++ word_bytes (end rs)
sheet_by_rule rs =
    sym (flat_map_more word_bytes [] (flat_map rule_words rs) (end rs)) ∙ ap (λ (bs : List ℕ). bs ++ word_bytes (end rs)) (bytes_by_rule rs)
