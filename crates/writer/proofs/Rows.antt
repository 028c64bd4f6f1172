-- What the tests of a rule list tell the writer.
use Rattle.std.proofs.Common.{◌≡◌, ℕ, ◌+◌, ◌^◌, ◌<◌, ◌≤◌, Bool, false, ◌||◌, List, [], ◌∷◌, length, get_or, drop, None, Option, sym, refl, ap, ◌∙◌, ⊎_elim, arith}
use Rattle.std.proofs.lemmas.List.{at_drop_more}
use Rattle.std.proofs.lemmas.Bool.{ltb-true, leb-true, and_parts, cases_Bool, cond-false, le-ltb}
use Rattle.std.proofs.ByRecursion.{All-get_or}
use Rattle.fields.specs.Checked.{is, first_refusal}
use Rattle.fields.specs.Places.{at}
use Rattle.fields.specs.Prefixes.{make}
use Rattle.fields.specs.Refusals.{first, refusal}
use Rattle.sheets.specs.Rows.{lacks, beyond, any_lacks, any_beyond, row_refusal, rows_refusal, or_else}
use Rattle.sheets.specs.declared.row.PatternRow.{PatternRow}
use Rattle.sheets.specs.declared.row.RuleRow.{RuleRow}
use Rattle.sheets.proofs.Patterns.{make_ways}
use Rattle.sheets.proofs.Rows.{Sound, Row, rows_each}
use Rattle.writer.specs.Fitting.{Fitting}

-- the rows from place i on are refused as the row there is, or else as those after it
pub rows_step : (least : ℕ) (rs : List RuleRow) (i : ℕ) (d : RuleRow) → i < length rs → (o : Option ℕ) → o ≡ row_refusal least (get_or rs i d)
    → rows_refusal least (drop i rs) ≡ or_else o (rows_refusal ((get_or rs i d).number + 1) (drop (i + 1) rs))
rows_step least rs i d h o e =
    at_drop_more (rows_refusal least) rs i d h ∙ ap (λ (p : Option ℕ). or_else p (rows_refusal ((get_or rs i d).number + 1) (drop (i + 1) rs))) (sym e)

module _ (w s : ℕ) (p : PatternRow) (h : Sound w s p) where
  length_fits : p.length.bits ≤ 32
  length_fits = leb-true _ _ (and_parts _ _ (and_parts _ _ h.0).1).0

  number_fits : p.number < 2 ^ w
  number_fits = ltb-true _ _ (and_parts _ _ h.1).0

row_fitting : (r : RuleRow) → Row 0 r → Fitting r
row_fitting r f = record {
  number = f.small;
  source_length = length_fits 32 1 _ f.sources;
  destination_length = length_fits 32 1 _ f.destinations;
  source_port_length = length_fits 16 1 _ f.from_ports;
  destination_port_length = length_fits 16 1 _ f.to_ports;
  protocol_length = length_fits 8 8 _ f.protocols;
  source_port = number_fits 16 1 _ f.from_ports;
  destination_port = number_fits 16 1 _ f.to_ports;
  protocol_number = number_fits 8 8 _ f.protocols;
}

pub fitting_at : (rs : List RuleRow) → rows_refusal 0 rs ≡ None → (i : ℕ) (d : RuleRow) → i < length rs → Fitting (get_or rs i d)
fitting_at rs e i d h = row_fitting _ (All-get_or (Row 0) rs i d h (rows_each 0 rs e))

-- ---- the five checks of a row
module _ (w s : ℕ) (p : PatternRow) where
  abbrev checked : Option ℕ
  checked = refusal (make w s p.length.bits p.number)

  -- what making a pattern of the row tells, if it is refused
  told : (is checked 2 ≡ lacks w s p) × (lacks w s p ≡ false → is checked 3 ≡ beyond w p)
  told = ⊎_elim
      (λ l. grind arith)
      (⊎_elim (λ b. grind arith) (λ f. grind arith))
      (make_ways w s p.length.bits p.number)

none_of : (a b c d e : Bool) → (a || b || c || d || e) ≡ false → (a ≡ false) × (b ≡ false) × (c ≡ false) × (d ≡ false) × (e ≡ false)
none_of a b c d e h = grind arith

five_of : (r : RuleRow) (a b c d e : Option ℕ)
    → a ≡ checked 32 1 r.addresses.source → b ≡ checked 32 1 r.addresses.destination
    → c ≡ checked 16 1 r.ports.source → d ≡ checked 16 1 r.ports.destination → e ≡ checked 8 8 r.protocol
    → first_refusal (at (record { addresses = record { source = a; destination = b }; ports = record { source = c; destination = d }; protocol = e }))
    ≡ first (record { fails = any_lacks r; refuses = 2 } ∷ record { fails = any_beyond r; refuses = 3 } ∷ [])
five_of r a b c d e ha hb hc hd he =
    let ta = told 32 1 r.addresses.source in
    let tb = told 32 1 r.addresses.destination in
    let tc = told 16 1 r.ports.source in
    let td = told 16 1 r.ports.destination in
    let te = told 8 8 r.protocol in
    ⊎_elim
    (λ h. grind arith)
    (λ h. let n = none_of _ _ _ _ _ h in
    let za = ta.1 n.0 in let zb = tb.1 n.1 in let zc = tc.1 n.2 in let zd = td.1 n.3 in let ze = te.1 n.4 in grind arith)
    (cases_Bool (any_lacks r))

-- the first refusal of the five is the one that the row is due
pub five_checks : (r : RuleRow)
    → first_refusal (at (record {
      addresses = record { source = checked 32 1 r.addresses.source; destination = checked 32 1 r.addresses.destination };
      ports = record { source = checked 16 1 r.ports.source; destination = checked 16 1 r.ports.destination };
      protocol = checked 8 8 r.protocol;
    }))
    ≡ first (record { fails = any_lacks r; refuses = 2 } ∷ record { fails = any_beyond r; refuses = 3 } ∷ [])
five_checks r = five_of r _ _ _ _ _ refl refl refl refl refl

-- a row whose number passes is refused as the first of its five patterns is
pub row_checked : (least : ℕ) (r : RuleRow) (o : Option ℕ) → r.number ≤ 255 → least ≤ r.number
    → o ≡ first_refusal (at (record {
      addresses = record { source = checked 32 1 r.addresses.source; destination = checked 32 1 r.addresses.destination };
      ports = record { source = checked 16 1 r.ports.source; destination = checked 16 1 r.ports.destination };
      protocol = checked 8 8 r.protocol;
    }))
    → o ≡ row_refusal least r
row_checked least r o small above e =
    e ∙ five_checks r ∙ sym (cond-false _ _ _ (le-ltb _ _ small) ∙ cond-false _ _ _ (le-ltb _ _ above))
