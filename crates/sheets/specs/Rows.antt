-- When a row of plain numbers is a rule, and when rows are a rule list: the tests of one rule after another.
use Rattle.std.specs.Prelude.{ℕ, ◌+◌, Bool, not, ◌||◌, List, [], ◌∷◌, Some, None, Option, nat_lt}
use Rattle.fields.specs.Refusals.{first}
use Rattle.fields.specs.Lengths.{has, clean}
use Rattle.sheets.specs.declared.row.PatternRow.{PatternRow}
use Rattle.sheets.specs.declared.row.RuleRow.{RuleRow}

-- the kind of width w and shortest length s lacks the row's length
abbrev pub lacks : ℕ → ℕ → PatternRow → Bool
lacks w s p = not (has w s p.length.bits)

-- a bit is set beyond the row's length, or above the width w
abbrev pub beyond : ℕ → PatternRow → Bool
beyond w p = not (clean w p.length.bits p.number)

abbrev pub any_lacks : RuleRow → Bool
any_lacks r =
    lacks 32 1 r.addresses.source || lacks 32 1 r.addresses.destination
    || lacks 16 1 r.ports.source || lacks 16 1 r.ports.destination || lacks 8 8 r.protocol

abbrev pub any_beyond : RuleRow → Bool
any_beyond r =
    beyond 32 r.addresses.source || beyond 32 r.addresses.destination
    || beyond 16 r.ports.source || beyond 16 r.ports.destination || beyond 8 r.protocol

-- what is wrong with a rule whose number has to be `least` or above
abbrev pub row_refusal : ℕ → RuleRow → Option ℕ
row_refusal least r = first (
    record { fails = nat_lt 255 r.number; refuses = 1 } ∷
    record { fails = nat_lt r.number least; refuses = 13 } ∷
    record { fails = any_lacks r; refuses = 2 } ∷
    record { fails = any_beyond r; refuses = 3 } ∷ [])

-- the first, or the second where the first is none
abbrev pub or_else : Option ℕ → Option ℕ → Option ℕ
or_else (Some n) other = Some n
or_else None other = other

-- what is wrong with the first rule that is not in order; numbers ascend
abbrev pub rows_refusal : ℕ → List RuleRow → Option ℕ
rows_refusal least [] = None
rows_refusal least (r ∷ rs) = or_else (row_refusal least r) (rows_refusal (r.number + 1) rs)
