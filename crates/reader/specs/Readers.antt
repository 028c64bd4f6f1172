-- What the readers of words, of rules and of a sheet answer. ws are the words of the sheet, i is a place among them.
use Rattle.std.specs.Prelude.{◌≡◌, ℕ, ◌+◌, ◌≤◌, cond, not, ◌⊎◌, List, [], ◌∷◌, map, length, Some, None, Ok, Err, Option, Result, ◌==◌, nat_le}
use Rattle.arrayvec.specs.ArrayVec.{ArrayVec}
use Rattle.fields.specs.Refusals.{first, code}
use Rattle.fields.specs.declared.refusal.Refusal.{Refusal}
use Rattle.sheets.specs.Faults.{fault_at}
use Rattle.sheets.specs.Words.{kind, rest, kind_due, word_at}
use Rattle.sheets.specs.Reading.{Verdict, accepted, refused, fault, at, ends, in_form, part_refusal, opening_refusal, words_read, sheet_read}
use Rattle.sheets.specs.declared.part.Part.{Part}
use Rattle.sheets.specs.declared.row.RuleRow.{RuleRow}
use Rattle.sheets.specs.declared.fault.Fault.{Fault}

-- words by their four bytes; shut, since only the word reader looks into them
unfoldable pub words_of : List (List ℕ) → List ℕ
words_of cs = map (λ c. word_at c 0) cs

-- ---- what is wrong with a word
module _ (ws : List ℕ) where
  -- that it is missing, else o
  abbrev pub missing_or : Option ℕ → ℕ → Option ℕ
  missing_or o i = cond (nat_le (length ws) i) (Some 15) o

  -- of the tests for a part, those before its length and its number are looked at
  abbrev pub form_refusal : Part → ℕ → Option ℕ
  form_refusal p i = missing_or (first (
      record { fails = not (kind (at ws i) == kind_due p); refuses = 11 } ∷
      record { fails = not (in_form ws p i); refuses = 12 } ∷ [])) i

  abbrev pub due_refusal : Part → ℕ → Option ℕ
  due_refusal p i = missing_or (part_refusal ws p i) i

  -- where a rule or the end is due
  unfoldable pub opening_due : ℕ → Option ℕ
  opening_due i = missing_or (opening_refusal ws i) i

  -- the number of the rule that a word opens, or none where it ends the sheet
  unfoldable pub opened : ℕ → Option ℕ
  opened i = cond (ends ws i) None (Some (rest (at ws i)))

-- ---- what a reader of one word answers; o is what is wrong with the word at place i
-- f is the fault of that word
unfoldable pub Refused : Option ℕ → ℕ → Fault → Type 0
Refused o i f = (e : Refusal) × (f ≡ fault_at e i) × (o ≡ Some (code e))

-- x where nothing is wrong, else the fault
abbrev pub ReadsWord : {X : Type 0} → Option ℕ → ℕ → X → Result X Fault → Type 0
ReadsWord o i x (Ok y) = (o ≡ None) × (y ≡ x)
ReadsWord o i x (Err f) = Refused o i f

-- ---- what a reader of parts answers, whose words stand one after another from place i on
module _ (ws : List ℕ) where
  -- nothing is wrong with any
  unfoldable pub Passes : List Part → ℕ → Type 0
  Passes [] i = Unit {0}
  Passes (p ∷ ps) i = (due_refusal ws p i ≡ None) × Passes ps (i + 1)

  -- f is the fault of the first with which something is wrong
  unfoldable pub Fails : List Part → ℕ → Fault → Type 0
  Fails [] i f = ⊥
  Fails (p ∷ ps) i f = Refused (due_refusal ws p i) i f ⊎ ((due_refusal ws p i ≡ None) × Fails ps (i + 1) f)

  -- x where nothing is wrong, else the fault
  abbrev pub Reads : {X : Type 0} → List Part → ℕ → X → Result X Fault → Type 0
  Reads ps i x (Ok y) = Passes ps i × (y ≡ x)
  Reads ps i x (Err f) = Fails ps i f

-- ---- what readers of all words answer, which have room for as many rules as a sheet can have
-- what reading comes to where so many rules can be taken
unfoldable pub ComesTo : List ℕ → (ℕ → Verdict) → Type 0
ComesTo ws v = (places : ℕ) → words_read ws places ≡ v places

-- the sheet has the fault f
abbrev pub faulty : Fault → Verdict
faulty f = refused (code f.refusal) f.place f.layer

-- the sheet has the rules rs, of which there are too many where there are fewer places
abbrev pub holding : List RuleRow → ℕ → Verdict
holding rs places = cond (nat_le (length rs) places) (accepted rs) (fault 9 0)

abbrev pub Broken : List ℕ → Fault → Type 0
Broken ws f = ComesTo ws (λ places. faulty f)

-- its rules, which a list then holds, or its fault
abbrev pub Fills : {X : Type 0} → List ℕ → List RuleRow → Result X Fault → Type 0
Fills ws rs (Ok u) = ComesTo ws (holding rs) × (length rs ≤ 256)
Fills ws rs (Err f) = Broken ws f

-- the same of the bytes of a sheet
abbrev pub FillsFrom : {X : Type 0} → List ℕ → List RuleRow → Result X Fault → Type 0
FillsFrom bs rs (Ok u) = (places : ℕ) → sheet_read bs places ≡ holding rs places
FillsFrom bs rs (Err f) = (places : ℕ) → sheet_read bs places ≡ faulty f

-- and where the rules are answered
abbrev pub Tells : List ℕ → Result (ArrayVec RuleRow) Fault → Type 0
Tells bs (Ok v) = (places : ℕ) → sheet_read bs places ≡ holding v.items places
Tells bs (Err f) = (places : ℕ) → sheet_read bs places ≡ faulty f
