-- The format: which bytes are the sheet of which rules. It stands apart from how a sheet is read.
use Rattle.std.specs.Prelude.{◌≡◌, ℕ, ◌+◌, ◌*◌, ◌/◌, ◌%◌, ◌^◌, List, [], ◌∷◌, ◌++◌, length, None}
use Rattle.std.specs.List.{flat_map}
use Rattle.sheets.specs.Rows.{rows_refusal}
use Rattle.sheets.specs.Words.{word, word_bytes}
use Rattle.sheets.specs.declared.part.Side.{Side}
use Rattle.sheets.specs.declared.part.Side.TheVariants.{Source, Destination}
use Rattle.sheets.specs.declared.part.Part.TheVariants.{Upper, Lower, Port, Protocol}
use Rattle.sheets.specs.declared.row.PatternRow.{PatternRow}
use Rattle.sheets.specs.declared.row.RuleRow.{RuleRow}

-- an address takes two words: its length and upper half, then its lower half
abbrev pub address_words : Side → PatternRow → List ℕ
address_words s p = word (Upper s) p.length.bits (p.number / 2 ^ 16) ∷ word (Lower s) 0 (p.number % 2 ^ 16) ∷ []

-- kind 1 opens a rule with its number
abbrev pub rule_words : RuleRow → List ℕ
rule_words r =
    (2 ^ 29 + r.number) ∷
    address_words Source r.addresses.source ++ address_words Destination r.addresses.destination ++
    (word (Port Source) r.ports.source.length.bits r.ports.source.number ∷
    word (Port Destination) r.ports.destination.length.bits r.ports.destination.number ∷
    word Protocol r.protocol.length.bits r.protocol.number ∷ [])

-- kind 6 ends the sheet with the count of its rules
abbrev pub sheet_words : List RuleRow → List ℕ
sheet_words rs = flat_map rule_words rs ++ ((6 * 2 ^ 29 + length rs) ∷ [])

abbrev pub sheet_bytes : List RuleRow → List ℕ
sheet_bytes rs = flat_map word_bytes (sheet_words rs)

-- the bytes are the sheet of these rules, whose numbers ascend and whose patterns are those of their kinds
pub record Sheet (bytes : List ℕ) (rules : List RuleRow) : Type 0 where
  pub ordered : rows_refusal 0 rules ≡ None
  pub written : bytes ≡ sheet_bytes rules
