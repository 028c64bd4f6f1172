-- The plain book. It is fed the arguments of every call on an engine since that was new, and no answers. A rule stands while it is in the book.
use Rattle.std.specs.Prelude.{ℕ, Bool, cond, not, ◌||◌, List, [], ◌∷◌, map, length, is_some, Some, None, filter, Option, ◌==◌, nat_eq, nat_lt}
use Rattle.fields.specs.Lists.{any}
use Rattle.fields.specs.Refusals.{Test, first}
use Rattle.groups.specs.Rules.{Rule}
use Rattle.groups.specs.Headers.{meets}
use Rattle.places.specs.Kinds.{Kind, nesting, matching}
use Rattle.places.specs.Rows.{some_place, made, part_at, rule_of}
use Rattle.fields.specs.Refusals.{refusal}
use Rattle.book.specs.declared.call.Call.{Call}
use Rattle.book.specs.declared.call.Call.TheVariants.{Add, Withdraw, Group, Classify, Clear}
use Rattle.book.specs.declared.limits.Limits.{Limits}
use Rattle.sheets.specs.declared.row.RuleRow.{RuleRow}

-- the rules, in ascending number, and the limits once grouped
pub record Book : Type 0 where
  pub rows : List RuleRow
  pub grouped : Option Limits

abbrev pub empty : Book
empty = record { rows = []; grouped = None }

-- a rule of this number stands
abbrev pub stands : ℕ → List RuleRow → Bool
stands n rows = any (λ r. nat_eq r.number n) rows

-- a rule at its place by number
abbrev pub insert : RuleRow → List RuleRow → List RuleRow
insert r [] = r ∷ []
insert r (q ∷ qs) = cond (nat_lt r.number q.number) (r ∷ q ∷ qs) (q ∷ insert r qs)

abbrev pub without : ℕ → List RuleRow → List RuleRow
without n rows = filter (λ r. not (r.number == n)) rows

module _ (kind : ℕ → Kind) {H : Type 0} (value : H → (i : ℕ) → (kind i).Value) where
  -- the standing rules
  abbrev pub rules : Book → List (Rule (λ i. (kind i).Pattern))
  rules b = map (rule_of kind) b.rows

  -- the standing rules that match a header
  abbrev pub matches : Book → H → List (Rule (λ i. (kind i).Pattern))
  matches b h = filter (meets (nesting kind) (matching kind) (value h)) (rules b)

  -- some pattern of the row is refused with this number
  abbrev pub spoiled : RuleRow → ℕ → Bool
  spoiled r n = some_place (λ i. refusal (made (kind i) (part_at r i))) n

  -- what a call is refused with: the tests in their order
  abbrev pub tests : Book → Call H → List Test
  tests b (Add r) =
      record { fails = nat_lt 255 r.number; refuses = 1 } ∷
      record { fails = spoiled r 2; refuses = 2 } ∷
      record { fails = spoiled r 3; refuses = 3 } ∷
      record { fails = stands r.number b.rows; refuses = 4 } ∷ []
  tests b (Withdraw n) =
      record { fails = nat_lt 255 n; refuses = 1 } ∷
      record { fails = not (stands n b.rows); refuses = 5 } ∷ []
  tests b (Group l) =
      record { fails = l.subsets == 0 || nat_lt 32 l.subsets; refuses = 6 } ∷
      record { fails = l.growth == 0 || nat_lt 64 l.growth; refuses = 7 } ∷ []
  tests b (Classify h places) =
      record { fails = not (is_some b.grouped); refuses = 8 } ∷
      record { fails = nat_lt places (length (matches b h)); refuses = 9 } ∷ []
  tests b Clear = []

  abbrev pub refuses : Book → Call H → Option ℕ
  refuses b c = first (tests b c)

  -- what an accepted call makes of the book
  abbrev pub accepted : Book → Call H → Book
  accepted b (Add r) = record { rows = insert r b.rows; grouped = None }
  accepted b (Withdraw n) = record { rows = without n b.rows; grouped = None }
  accepted b (Group l) = record { rows = b.rows; grouped = Some l }
  accepted b (Classify h places) = b
  accepted b Clear = empty

  -- a refused call changes nothing
  abbrev pub after : Book → Call H → Book
  after b c = cond (is_some (refuses b c)) b (accepted b c)
