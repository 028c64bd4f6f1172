-- The number of each refusal, and the number that a call is refused with.
use Rattle.std.specs.Prelude.{ℕ, Bool, cond, List, [], ◌∷◌, ◌++◌, codes, decimal, Some, None, Ok, Err, Option, Result}
use Rattle.fields.specs.declared.refusal.Refusal.{Refusal}
use Rattle.fields.specs.declared.refusal.Refusal.TheVariants.{RuleNumber, Length, BitBeyond, Standing, NotStanding, SubsetLimit, GrowthLimit, Ungrouped, NoRoom, ByteCount, WordKind, WordBits, RuleOrder, RuleCount, SheetEnd, PacketBytes, Version, HeaderLength, TotalLength, Ports, HeaderBlock, Memory}

abbrev pub code : Refusal → ℕ
code RuleNumber = 1
code Length = 2
code BitBeyond = 3
code Standing = 4
code NotStanding = 5
code SubsetLimit = 6
code GrowthLimit = 7
code Ungrouped = 8
code NoRoom = 9
code ByteCount = 10
code WordKind = 11
code WordBits = 12
code RuleOrder = 13
code RuleCount = 14
code SheetEnd = 15
code PacketBytes = 16
code Version = 17
code HeaderLength = 18
code TotalLength = 19
code Ports = 20
code HeaderBlock = 23
code Memory = 99

-- how a refusal is printed
abbrev pub text : Refusal → List ℕ
text e = codes "refused " ++ decimal (code e)

-- the number that a result is refused with, or none
abbrev pub refusal : {X : Type 0} → Result X Refusal → Option ℕ
refusal (Ok x) = None
refusal (Err e) = Some (code e)

-- a test that a call has to pass: when it fails, and the number that it then refuses with
pub record Test : Type 0 where
  pub fails : Bool
  pub refuses : ℕ

-- the number of the first test that fails, or none
abbrev pub first : List Test → Option ℕ
first [] = None
first (t ∷ ts) = cond t.fails (Some t.refuses) (first ts)
