-- What a sheet of any bytes is read as: its rules, or its first fault.
use Rattle.std.specs.Prelude.{◌≡◌, ℕ, zero, suc, ◌+◌, ◌-◌, ◌*◌, ◌/◌, ◌%◌, ◌^◌, ◌<◌, Bool, true, false, cond, not, ◌&&◌, ◌||◌, List, [], ◌∷◌, ◌++◌, map, length, drop, is_some, Some, None, Ok, Err, Option, Result, ◌==◌, nat_le, nat_lt, slice_index, slice_index_or}
use Rattle.std.specs.List.{range_with_len}
use Rattle.fields.specs.Lengths.{has, clean}
use Rattle.fields.specs.Refusals.{first, code}
use Rattle.sheets.specs.Faults.{layer_of}
use Rattle.sheets.specs.Words.{kind, rest, side, size, low, kind_due, side_due, word_at}
use Rattle.sheets.specs.declared.part.Side.TheVariants.{Source, Destination}
use Rattle.sheets.specs.declared.part.Part.{Part}
use Rattle.sheets.specs.declared.part.Part.TheVariants.{Upper, Lower, Port, Protocol}
use Rattle.sheets.specs.declared.row.PatternRow.{PatternRow}
use Rattle.sheets.specs.declared.row.RuleRow.{RuleRow}
use Rattle.sheets.specs.declared.fault.Fault.{Fault}
use Rattle.sheets.specs.declared.fault.Layer.{Layer}

-- a rule has eight words: its number, and these parts
abbrev pub parts : List Part
parts = Upper Source ∷ Lower Source ∷ Upper Destination ∷ Lower Destination ∷ Port Source ∷ Port Destination ∷ Protocol ∷ []

-- ---- one word of a sheet, by its place i; ws are the words of the sheet
module _ (ws : List ℕ) where
  abbrev pub at : ℕ → ℕ
  at i = slice_index ws i

  abbrev pub opens : ℕ → Bool
  opens i = kind (at i) == 1

  abbrev pub ends : ℕ → Bool
  ends i = kind (at i) == 6

  -- the lowest number that the rule opened at place i may have: above that of the rule before
  abbrev pub least : ℕ → ℕ
  least i = cond (i == 0) 0 (rest (at (i - 8)) + 1)

  -- where a rule or the end is due
  abbrev pub opening_refusal : ℕ → Option ℕ
  opening_refusal i = first (
      record { fails = not (opens i || ends i); refuses = 11 } ∷
      record { fails = opens i && nat_lt 255 (rest (at i)); refuses = 1 } ∷
      record { fails = opens i && nat_lt (rest (at i)) (least i); refuses = 13 } ∷
      record { fails = ends i && not (rest (at i) == i / 8); refuses = 14 } ∷ [])

  -- a word for this part: the bits that have to be 0 are, and the side is the right one
  abbrev pub in_form : Part → ℕ → Bool
  in_form (Lower s) i = side (at i) == side_due (Lower s) && size (at i) == 0 && nat_lt (low (at i)) (2 ^ 16)
  in_form (Upper s) i = side (at i) == side_due (Upper s) && nat_lt (low (at i)) (2 ^ 16)
  in_form (Port s) i = side (at i) == side_due (Port s) && nat_lt (low (at i)) (2 ^ 16)
  in_form Protocol i = side (at i) == 0 && nat_lt (low (at i)) (2 ^ 8)

  -- a length that the kind lacks
  abbrev pub lacking : Part → ℕ → Bool
  lacking (Upper s) i = not (has 32 1 (size (at i)))
  lacking (Lower s) i = false
  lacking (Port s) i = not (has 16 1 (size (at i)))
  lacking Protocol i = not (has 8 8 (size (at i)))

  -- a bit beyond the length: of an address this is seen at its lower half
  abbrev pub passing : Part → ℕ → Bool
  passing (Upper s) i = false
  passing (Lower s) i = not (clean 32 (size (at (i - 1))) (low (at (i - 1)) * 2 ^ 16 + low (at i)))
  passing (Port s) i = not (clean 16 (size (at i)) (low (at i)))
  passing Protocol i = not (clean 8 (size (at i)) (low (at i)))

  abbrev pub part_refusal : Part → ℕ → Option ℕ
  part_refusal p i = first (
      record { fails = not (kind (at i) == kind_due p); refuses = 11 } ∷
      record { fails = not (in_form p i); refuses = 12 } ∷
      record { fails = lacking p i; refuses = 2 } ∷
      record { fails = passing p i; refuses = 3 } ∷ [])

  -- what is wrong with the word at place i, where those before it are in order; past the last word, that it is missing
  abbrev pub word_refusal : ℕ → Option ℕ
  word_refusal i =
      cond (nat_le (length ws) i) (Some 15) (cond (i % 8 == 0) (opening_refusal i) (part_refusal (slice_index_or parts (i % 8 - 1) Protocol) i))

  -- the word at place i ends the sheet
  abbrev pub last : ℕ → Bool
  last i = i % 8 == 0 && ends i

  -- the first place, of the n from place i on, where a word is out of order or ends the sheet
  abbrev pub stop : ℕ → ℕ → ℕ
  stop i zero = i
  stop i (suc n) = cond (is_some (word_refusal i) || last i) i (stop (i + 1) n)

  -- place i is the first where a word is out of order or ends the sheet
  pub record StopsAt (i : ℕ) : Type 0 where
    pub there : (is_some (word_refusal i) || last i) ≡ true
    pub before : (k : ℕ) → k < i → (word_refusal k ≡ None) × (last k ≡ false)

  -- ---- the rule whose words begin at place i
  abbrev pub pattern_at : ℕ → PatternRow
  pattern_at i = record { length = record { bits = size (at i) }; number = low (at i) }

  abbrev pub address_at : ℕ → PatternRow
  address_at i = record { length = record { bits = size (at i) }; number = low (at i) * 2 ^ 16 + low (at (i + 1)) }

  abbrev pub rule_at : ℕ → RuleRow
  rule_at i = record {
    number = rest (at i);
    addresses = record { source = address_at (i + 1); destination = address_at (i + 3) };
    ports = record { source = pattern_at (i + 5); destination = pattern_at (i + 6) };
    protocol = pattern_at (i + 7);
  }

  abbrev pub rules : ℕ → List RuleRow
  rules n = map (λ k. rule_at (8 * k)) (range_with_len 0 n)

-- ---- the sheet
-- what reading comes to: the rules, or a refusal with its number, its place and its layer
pub data Verdict : Type 0 where
  accepted : List RuleRow → Verdict
  refused : ℕ → ℕ → Layer → Verdict

abbrev pub fault : ℕ → ℕ → Verdict
fault n i = refused n i (layer_of n)

-- the words were gone through as far as place i; `places` rules can be taken
abbrev pub verdict : List ℕ → ℕ → ℕ → Option ℕ → Verdict
verdict ws places i (Some n) = fault n i
verdict ws places i None = cond (i + 1 == length ws) (cond (nat_le (i / 8) places) (accepted (rules ws (i / 8))) (fault 9 0)) (fault 15 (i + 1))

abbrev pub words_read : List ℕ → ℕ → Verdict
words_read ws places = verdict ws places (stop ws 0 (length ws)) (word_refusal ws (stop ws 0 (length ws)))

-- the words of whole words of bytes
abbrev pub words : List ℕ → List ℕ
words bs = map (word_at bs) (range_with_len 0 (length bs / 4))

abbrev pub sheet_read : List ℕ → ℕ → Verdict
sheet_read bs places = cond (length bs == 0 || not (length bs % 4 == 0)) (fault 10 0) (words_read (words bs) places)

-- ---- what a call that reads answers, and what its rule list then holds
abbrev pub Answers : Verdict → Result ℕ Fault → Type 0
Answers (accepted rs) r = r ≡ Ok (length rs)
Answers (refused n i l) r = (f : Fault) × (r ≡ Err f) × (code f.refusal ≡ n) × (f.place ≡ i) × (f.layer ≡ l)

abbrev pub listed : Verdict → List RuleRow → List RuleRow
listed (accepted rs) list = rs ++ drop (length rs) list
listed (refused n i l) list = list
