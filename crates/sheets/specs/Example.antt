-- The worked sheet: rule 1 alone, source 10.0.0.0/8.
use Rattle.std.specs.Prelude.{◌≡◌, ℕ, List, [], ◌∷◌, take, slice_set}
use Rattle.std.specs.List.{flat_map}
use Rattle.sheets.specs.Words.{word_bytes}
use Rattle.sheets.specs.Format.{sheet_words, sheet_bytes}
use Rattle.sheets.specs.Reading.{Verdict, accepted, refused, sheet_read}
use Rattle.sheets.specs.declared.row.PatternRow.{PatternRow}
use Rattle.sheets.specs.declared.row.RuleRow.{RuleRow}
use Rattle.sheets.specs.declared.fault.Layer.TheVariants.{Word, Rule, Sheet}

abbrev pub pattern : ℕ → ℕ → PatternRow
pattern l n = record { length = record { bits = l }; number = n }

abbrev pub rule_one : RuleRow
rule_one = record {
  number = 1;
  addresses = record { source = pattern 8 0x0A00_0000; destination = pattern 0 0 };
  ports = record { source = pattern 0 0; destination = pattern 0 0 };
  protocol = pattern 0 0;
}

abbrev pub one : List ℕ
one = 0x2000_0001 ∷ 0x4200_0A00 ∷ 0x6000_0000 ∷ 0x5000_0000 ∷ 0x7000_0000 ∷ 0x8000_0000 ∷ 0x9000_0000 ∷ 0xA000_0000 ∷ 0xC000_0001 ∷ []

-- the sheet with another word at a place
abbrev pub damaged : ℕ → ℕ → Verdict
damaged i w = sheet_read (flat_map word_bytes (slice_set one i w)) 1

pub record Results : Type 0 where
  pub words : List ℕ
  pub verdicts : List Verdict

abbrev pub computed : Results
computed = record {
  words = sheet_words (rule_one ∷ []);
  verdicts =
      sheet_read (sheet_bytes (rule_one ∷ [])) 1 ∷ sheet_read (sheet_bytes (rule_one ∷ [])) 0 ∷ sheet_read (sheet_bytes []) 0 ∷
      sheet_read [] 1 ∷ sheet_read (take 5 (sheet_bytes (rule_one ∷ []))) 1 ∷ sheet_read (take 12 (sheet_bytes (rule_one ∷ []))) 1 ∷
      damaged 0 0xC000_0000 ∷ damaged 0 0x2000_0100 ∷ damaged 1 0x4840_0A00 ∷ damaged 2 0x6000_0001 ∷ damaged 2 0x7000_0000 ∷
      damaged 4 0xC000_0000 ∷ damaged 7 0xA1C0_0000 ∷ damaged 8 0xC000_0002 ∷ damaged 8 0x2000_0001 ∷ [];
}

abbrev pub expected : Results
expected = record {
  words = one;
  verdicts =
      accepted (rule_one ∷ []) ∷ refused 9 0 Sheet ∷ accepted [] ∷
      refused 10 0 Sheet ∷ refused 10 0 Sheet ∷ refused 15 3 Sheet ∷
      refused 15 1 Sheet ∷ refused 1 0 Rule ∷ refused 2 1 Word ∷ refused 3 2 Word ∷ refused 12 2 Word ∷
      refused 11 4 Word ∷ refused 2 7 Word ∷ refused 14 8 Sheet ∷ refused 13 8 Rule ∷ [];
}

abbrev pub Worked : Type 0
Worked = computed ≡ expected
