-- The worked examples: addresses, ports and protocols as in IPv4, a sheet of four rules, and what is worked out of it.
use Rattle.std.specs.Prelude.{◌≡◌, ℕ, List, [], ◌∷◌, map, length, Some, None, filter, Option}
use Rattle.std.specs.List.{range_with_len}
use Rattle.fields.specs.Numbering.{itself}
use Rattle.fields.specs.PrefixLaws.{prefix_nest}
use Rattle.groups.specs.Rules.{Rule}
use Rattle.groups.specs.Tuples.{tuple, heads}
use Rattle.groups.specs.Keys.{keys, pseudo}
use Rattle.groups.specs.Taking.{taken_into, shelf}
use Rattle.places.specs.Kinds.{Kind, kind_at, nesting}
use Rattle.places.specs.Rows.{rule_of}
use Rattle.book.specs.Book.{empty, refuses}
use Rattle.book.specs.declared.call.Call.TheVariants.{Add}
use Rattle.sheets.specs.declared.row.PatternRow.{PatternRow}
use Rattle.sheets.specs.declared.row.RuleRow.{RuleRow}

abbrev pub prefixes : ℕ → ℕ → Kind
prefixes w s = record { Pattern = _; Value = ℕ; nest = prefix_nest w s itself }

-- addresses, ports and protocols
abbrev pub ipv4 : ℕ → Kind
ipv4 = kind_at (prefixes 32 1) (prefixes 32 1) (prefixes 16 1) (prefixes 16 1) (prefixes 8 8)

abbrev pub part : ℕ → ℕ → PatternRow
part l n = record { length = record { bits = l }; number = n }

abbrev pub row : ℕ → PatternRow → PatternRow → PatternRow → PatternRow → PatternRow → RuleRow
row n a b c d e = record { number = n; addresses = record { source = a; destination = b }; ports = record { source = c; destination = d }; protocol = e }

abbrev pub any : PatternRow
any = part 0 0

-- 1: from 10.0.0.0/8. 2: from 10.1.0.0/16 to 192.0.2.0/24. 3: from 10.1.0.0/16 to port 5004, protocol 17. 4: everything
abbrev pub sheet : List RuleRow
sheet =
    row 1 (part 8 0x0A00_0000) any any any any ∷
    row 2 (part 16 0x0A01_0000) (part 24 0xC000_0200) any any any ∷
    row 3 (part 16 0x0A01_0000) any any (part 16 5004) (part 8 17) ∷
    row 4 any any any any any ∷ []

abbrev pub four : List (Rule (λ i. (ipv4 i).Pattern))
four = map (rule_of ipv4) sheet

abbrev pub numbers : List (Rule (λ i. (ipv4 i).Pattern)) → List ℕ
numbers rs = map (λ r. r.number) rs

-- what a grouping shows: the rules taken into each subset, the number of its keys, how many of them are pseudo-rules, and the shelf
pub record Shown : Type 0 where
  pub rules : List (List ℕ)
  pub counts : List ℕ
  pub pseudos : List ℕ
  pub shelved : List ℕ

abbrev pub shown : ℕ → ℕ → List (Rule (λ i. (ipv4 i).Pattern)) → Shown
shown g t rs =
    let subsets = map (taken_into (nesting ipv4) g t rs) (range_with_len 0 (length (heads (nesting ipv4) rs g))) in
    record {
      rules = map numbers subsets;
      counts = map (λ q. length (keys (nesting ipv4) q)) subsets;
      pseudos = map (λ q. length (filter (pseudo (nesting ipv4) q) (keys (nesting ipv4) q))) subsets;
      shelved = numbers (shelf (nesting ipv4) g t rs);
    }

-- what the book refuses the adding of a rule with
abbrev pub adding : RuleRow → Option ℕ
adding r = refuses ipv4 (λ (v : (i : ℕ) → (ipv4 i).Value). v) empty (Add r)

pub record Results : Type 0 where
  pub tuples : List (List ℕ)
  pub groupings : List Shown
  pub additions : List (Option ℕ)

abbrev pub computed : Results
computed = record {
  tuples = map (tuple (nesting ipv4) four) four;
  groupings = shown 4 1 four ∷ shown 2 64 four ∷ shown 1 12 four ∷ shown 1 11 four ∷ shown 1 2 four ∷ [];
  additions =
      adding (row 9 (part 32 0x0A00_0001) any any any any) ∷
      adding (row 9 (part 33 0x0A00_0001) any any any any) ∷
      adding (row 9 (part 8 0x0A00_0001) any any any any) ∷
      adding (row 9 any any any any (part 7 0)) ∷
      adding (row 256 any any any any any) ∷ [];
}

abbrev pub expected : Results
expected = record {
  tuples = (1 ∷ 0 ∷ 0 ∷ 0 ∷ 0 ∷ []) ∷ (2 ∷ 1 ∷ 0 ∷ 0 ∷ 0 ∷ []) ∷ (2 ∷ 0 ∷ 0 ∷ 1 ∷ 1 ∷ []) ∷ (0 ∷ 0 ∷ 0 ∷ 0 ∷ 0 ∷ []) ∷ [];
  groupings =
      record { rules = (1 ∷ []) ∷ (2 ∷ []) ∷ (3 ∷ []) ∷ (4 ∷ []) ∷ []; counts = 1 ∷ 1 ∷ 1 ∷ 1 ∷ []; pseudos = 0 ∷ 0 ∷ 0 ∷ 0 ∷ []; shelved = [] } ∷
      record { rules = (1 ∷ 3 ∷ 4 ∷ []) ∷ (2 ∷ []) ∷ []; counts = 12 ∷ 1 ∷ []; pseudos = 9 ∷ 0 ∷ []; shelved = [] } ∷
      record { rules = (1 ∷ 2 ∷ 3 ∷ 4 ∷ []) ∷ []; counts = 24 ∷ []; pseudos = 20 ∷ []; shelved = [] } ∷
      record { rules = (1 ∷ 2 ∷ 4 ∷ []) ∷ []; counts = 6 ∷ []; pseudos = 3 ∷ []; shelved = 3 ∷ [] } ∷
      record { rules = (1 ∷ 4 ∷ []) ∷ []; counts = 2 ∷ []; pseudos = 0 ∷ []; shelved = 2 ∷ 3 ∷ [] } ∷ [];
  additions = None ∷ Some 2 ∷ Some 3 ∷ Some 2 ∷ Some 1 ∷ [];
}

abbrev pub Worked : Type 0
Worked = computed ≡ expected
