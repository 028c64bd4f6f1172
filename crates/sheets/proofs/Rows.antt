-- What the tests of rows tell.
use Rattle.std.proofs.Common.{◌≡◌, ℕ, ◌+◌, ◌≤◌, Bool, true, false, not, ◌||◌, ltb, List, [], ◌∷◌, length, Some, None, Option, refl, arith}
use Rattle.std.specs.List.{AllByRecursion}
use Rattle.std.proofs.lemmas.Bool.{ltb-false}
use Rattle.fields.specs.Lengths.{has, clean}
use Rattle.fields.specs.Refusals.{first}
use Rattle.sheets.specs.Rows.{any_lacks, any_beyond, row_refusal, rows_refusal, or_else}
use Rattle.sheets.specs.declared.row.PatternRow.{PatternRow}
use Rattle.sheets.specs.declared.row.RuleRow.{RuleRow}

-- ---- a row: the length is one of the kind's, and the number's bits are within it
abbrev pub Sound : ℕ → ℕ → PatternRow → Type 0
Sound w s p = (has w s p.length.bits ≡ true) × (clean w p.length.bits p.number ≡ true)

pub record Row (least : ℕ) (r : RuleRow) : Type 0 where
  pub small : r.number ≤ 255
  pub above : least ≤ r.number
  pub sources : Sound 32 1 r.addresses.source
  pub destinations : Sound 32 1 r.addresses.destination
  pub from_ports : Sound 16 1 r.ports.source
  pub to_ports : Sound 16 1 r.ports.destination
  pub protocols : Sound 8 8 r.protocol

-- four tests, one after another, of which none refuses
passed : (k l m n : ℕ) (a b c d : Bool)
    → first (record { fails = a; refuses = k } ∷ record { fails = b; refuses = l } ∷ record { fails = c; refuses = m } ∷ record { fails = d; refuses = n } ∷ []) ≡ None
    → (a ≡ false) × (b ≡ false) × (c ≡ false) × (d ≡ false)
passed k l m n a b c d h = grind arith

any_from : (a b c d e : Bool) → (not a || not b || not c || not d || not e) ≡ false → (a ≡ true) × (b ≡ true) × (c ≡ true) × (d ≡ true) × (e ≡ true)
any_from a b c d e h = grind arith

row_from : (least : ℕ) (r : RuleRow) → row_refusal least r ≡ None → Row least r
row_from least r h =
    let q = passed 1 13 2 3 (ltb 255 r.number) (ltb r.number least) (any_lacks r) (any_beyond r) h in
    let l = any_from _ _ _ _ _ q.2 in
    let b = any_from _ _ _ _ _ q.3 in
    record {
      small = ltb-false _ _ q.0;
      above = ltb-false _ _ q.1;
      sources = (l.0, b.0);
      destinations = (l.1, b.1);
      from_ports = (l.2, b.2);
      to_ports = (l.3, b.3);
      protocols = (l.4, b.4);
    }

pub row_is : (least : ℕ) (r : RuleRow) → (row_refusal least r ≡ None → Row least r) × (Row least r → row_refusal least r ≡ None)
row_is least r = (row_from least r, λ f. grind arith)

-- ---- rows, one after another
pub neither : (o p : Option ℕ) → or_else o p ≡ None → (o ≡ None) × (p ≡ None)
neither (Some n) p h = absurd (cc)
neither None p h = (refl, h)

pub rows_each : (m : ℕ) (rs : List RuleRow) → rows_refusal m rs ≡ None → AllByRecursion (Row 0) rs
rows_each m [] h = tt
rows_each m (r ∷ rs) h =
    let t = neither (row_refusal m r) _ h in
    let f = (row_is m r).0 t.0 in
    (grind arith, rows_each (r.number + 1) rs t.1)

-- ascending numbers of at most 255 are few
pub few : (m : ℕ) (rs : List RuleRow) → m ≤ 256 → rows_refusal m rs ≡ None → m + length rs ≤ 256
few m [] l h = omega arith
few m (r ∷ rs) l h =
    let t = neither (row_refusal m r) _ h in
    let f = (row_is m r).0 t.0 in
    omega (arith, f.small, f.above, few (r.number + 1) rs (omega (arith, f.small)) t.1)
