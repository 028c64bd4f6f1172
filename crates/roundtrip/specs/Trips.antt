-- What is there after the way there and back again.
use Rattle.std.specs.Prelude.{◌≡◌, ℕ, cond, List, ◌++◌, length, drop, Some, None, Option, nat_lt}
use Rattle.sheets.specs.Reading.{Verdict, accepted, refused}
use Rattle.sheets.specs.declared.row.RuleRow.{RuleRow}

-- refused for want of room: `needed` places are wanted, and there are `places`
abbrev pub room_refusal : ℕ → ℕ → Option ℕ
room_refusal needed places = cond (nat_lt places needed) (Some 9) None

-- the list has the rules that were written, and then what it had
pub record Reread (rules before after : List RuleRow) (count : ℕ) : Type 0 where
  pub counted : count ≡ length rules
  pub same : after ≡ rules ++ drop (length rules) before

-- a sheet is written again wherever it was accepted and there is room for its bytes
abbrev pub rewrite_refusal : Verdict → ℕ → ℕ → Option ℕ
rewrite_refusal (accepted rs) needed places = room_refusal needed places
rewrite_refusal (refused n i l) needed places = Some n

-- the output has the bytes that were read, and then what it had
pub record Rewritten (bytes before after : List ℕ) (count : ℕ) : Type 0 where
  pub counted : count ≡ length bytes
  pub same : after ≡ bytes ++ drop (length bytes) before
