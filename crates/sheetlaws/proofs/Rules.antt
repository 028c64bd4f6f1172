-- The eight words of a rule and its row are one another's.
use Rattle.std.proofs.Common.{◌≡◌, ℕ, suc, ◌+◌, ◌*◌, ◌/◌, ◌%◌, ◌^◌, ◌<◌, ◌≤◌, List, ◌∷◌, ◌++◌, map, get_or, sym, refl, ap, ◌∙◌, subst, ap₂, arith}
use Rattle.std.specs.List.{range_with_len}
use Rattle.std.proofs.lemmas.List.FromFn.{get_or-range_with_len}
use Rattle.std.proofs.ByRecursion.{All-get_or}
use Rattle.fields.specs.Lengths.{has, clean}
use Rattle.sheets.specs.Words.{kind, rest, side, size, low, kind_due, side_due, bits_due, word}
use Rattle.sheets.specs.Format.{rule_words}
use Rattle.sheets.specs.Reading.{parts}
use Rattle.sheets.specs.declared.part.Side.{Side}
use Rattle.sheets.specs.declared.part.Side.TheVariants.{Source, Destination}
use Rattle.sheets.specs.declared.part.Part.{Part}
use Rattle.sheets.specs.declared.part.Part.TheVariants.{Upper, Lower, Port, Protocol}
use Rattle.sheets.specs.declared.row.PatternRow.{PatternRow}
use Rattle.sheets.specs.declared.row.RuleRow.{RuleRow}
use Rattle.sheets.proofs.Rows.{Sound, Row}
use Rattle.sheetlaws.proofs.Fine.{Opens, Fine, Fits}

seven : (P : ℕ → Type 0) → P 0 → P 1 → P 2 → P 3 → P 4 → P 5 → P 6 → (j : ℕ) → j < 7 → P j
seven P a b c d e f g j l =
    let z : 0 + j ≡ j = omega arith in
    subst P (get_or-range_with_len 0 7 j 0 l ∙ z) (All-get_or P (range_with_len 0 7) j 0 l (a, (b, (c, (d, (e, (f, (g, tt))))))))

-- eight words in order, of a rule whose number is at least `least`
pub record Eight (least : ℕ) (w : ℕ → ℕ) : Type 0 where
  pub opening : Opens least (w 0)
  pub others : (j : ℕ) → j < 7 → Fine (get_or parts j Protocol) (w j) (w (suc j))

abbrev pub pattern_of : ℕ → PatternRow
pattern_of w = record { length = record { bits = size w }; number = low w }

abbrev pub address_of : ℕ → ℕ → PatternRow
address_of u w = record { length = record { bits = size u }; number = low u * 2 ^ 16 + low w }

-- the row that eight words say
abbrev pub row_of : (ℕ → ℕ) → RuleRow
row_of w = record {
  number = rest (w 0);
  addresses = record { source = address_of (w 1) (w 2); destination = address_of (w 3) (w 4) };
  ports = record { source = pattern_of (w 5); destination = pattern_of (w 6) };
  protocol = pattern_of (w 7);
}

-- ---- from words to a row, and to the same words
shown : (p : Part) (u w : ℕ) → Fine p u w → word p (size w) (low w) ≡ w
shown p u w f = omega (arith, f.is_kind, f.is_side)

module _ (s : Side) (t u w : ℕ) (f : Fine (Upper s) t u) (g : Fine (Lower s) u w) where
  upper_shown : word (Upper s) (size u) ((low u * 2 ^ 16 + low w) / 2 ^ 16) ≡ u
  upper_shown = let e : (low u * 2 ^ 16 + low w) / 2 ^ 16 ≡ low u = omega (arith, g.narrow) in ap (word (Upper s) (size u)) e ∙ shown (Upper s) t u f

  lower_shown : word (Lower s) 0 ((low u * 2 ^ 16 + low w) % 2 ^ 16) ≡ w
  lower_shown =
      let e : (low u * 2 ^ 16 + low w) % 2 ^ 16 ≡ low w = omega (arith, g.narrow) in
      ap₂ (word (Lower s)) (sym g.fits.0) e ∙ shown (Lower s) u w g

module _ (least : ℕ) (w : ℕ → ℕ) (e : Eight least w) where
  pub row_in_order : Row least (row_of w)
  row_in_order = record {
    small = e.opening.small;
    above = e.opening.above;
    sources = ((e.others 0 (omega arith)).fits, (e.others 1 (omega arith)).fits.1);
    destinations = ((e.others 2 (omega arith)).fits, (e.others 3 (omega arith)).fits.1);
    from_ports = (e.others 4 (omega arith)).fits;
    to_ports = (e.others 5 (omega arith)).fits;
    protocols = (e.others 6 (omega arith)).fits;
  }

  pub words_shown : rule_words (row_of w) ≡ map w (range_with_len 0 8)
  words_shown =
      let a = e.others 0 (omega arith) in
      let b = e.others 1 (omega arith) in
      let c = e.others 2 (omega arith) in
      let d = e.others 3 (omega arith) in
      ap₂ ◌∷◌ (omega (arith, e.opening.is_kind))
      (ap₂ ◌∷◌ (upper_shown Source _ _ _ a b)
      (ap₂ ◌∷◌ (lower_shown Source _ _ _ a b)
      (ap₂ ◌∷◌ (upper_shown Destination _ _ _ c d)
      (ap₂ ◌∷◌ (lower_shown Destination _ _ _ c d)
      (ap₂ ◌∷◌ (shown (Port Source) _ _ (e.others 4 (omega arith)))
      (ap₂ ◌∷◌ (shown (Port Destination) _ _ (e.others 5 (omega arith)))
      (ap₂ ◌∷◌ (shown Protocol _ _ (e.others 6 (omega arith))) refl)))))))

-- ---- from a row to words, and to the same row
bounds : (p : Part) → (side_due p < 2) × (2 ^ bits_due p ≤ 2 ^ 16)
bounds p = grind arith

record Told (p : Part) (l n w : ℕ) : Type 0 where
  is_kind : kind w ≡ kind_due p
  is_side : side w ≡ side_due p
  is_size : size w ≡ l
  is_low : low w ≡ n
  narrow : low w < 2 ^ bits_due p

low_is : (p : Part) (l n : ℕ) → n < 2 ^ 16 → low (word p l n) ≡ n
low_is p l n m = omega arith

told : (p : Part) (l n : ℕ) → l < 64 → n < 2 ^ bits_due p → Told p l n (word p l n)
told p l n a b =
    let s : side_due p < 2 = (bounds p).0 in
    let m : n < 2 ^ 16 = omega (arith, (bounds p).1) in
    record { is_kind = omega arith; is_side = omega arith; is_size = omega arith; is_low = low_is p l n m; narrow = subst (λ x. x < 2 ^ bits_due p) (sym (low_is p l n m)) b }

fine : (p : Part) (t l n w : ℕ) → Told p l n w → Fits p t w → Fine p t w
fine p t l n w d f = record { is_kind = d.is_kind; is_side = d.is_side; narrow = d.narrow; fits = f }

module _ (w s : ℕ) (q : PatternRow) (h : Sound w s q) where
  short : q.length.bits < 64
  short = grind arith

  below : q.number < 2 ^ w
  below = grind arith

module _ (s : Side) (q : PatternRow) (h : Sound 32 1 q) where
  abbrev upper : ℕ
  upper = word (Upper s) q.length.bits (q.number / 2 ^ 16)

  abbrev lower : ℕ
  lower = word (Lower s) 0 (q.number % 2 ^ 16)

  upper_told : Told (Upper s) q.length.bits (q.number / 2 ^ 16) upper
  upper_told = let n : q.number < 2 ^ 32 = below 32 1 q h in told (Upper s) _ _ (short 32 1 q h) (omega arith)

  lower_told : Told (Lower s) 0 (q.number % 2 ^ 16) lower
  lower_told = told (Lower s) _ _ (omega arith) (omega arith)

  whole : low upper * 2 ^ 16 + low lower ≡ q.number
  whole = omega (arith, upper_told.is_low, lower_told.is_low)

  address_shown : address_of upper lower ≡ q
  address_shown = λ j. record { length = record { bits = upper_told.is_size j }; number = whole j }

  upper_fine : (t : ℕ) → Fine (Upper s) t upper
  upper_fine t = fine (Upper s) t _ _ upper upper_told (ap (has 32 1) upper_told.is_size ∙ h.0)

  lower_fine : Fine (Lower s) upper lower
  lower_fine = fine (Lower s) upper _ _ lower lower_told (lower_told.is_size, ap₂ (clean 32) upper_told.is_size whole ∙ h.1)

-- a part of one word
module _ (p : Part) (s : ℕ) (q : PatternRow) (h : Sound (bits_due p) s q) where
  abbrev lone : ℕ
  lone = word p q.length.bits q.number

  lone_told : Told p q.length.bits q.number lone
  lone_told = told p _ _ (short (bits_due p) s q h) (below (bits_due p) s q h)

  lone_shown : pattern_of lone ≡ q
  lone_shown = λ j. record { length = record { bits = lone_told.is_size j }; number = lone_told.is_low j }

  lone_sound : Sound (bits_due p) s (pattern_of lone)
  lone_sound = subst (Sound (bits_due p) s) (sym lone_shown) h

-- the words of the row r, which others follow
module _ (least : ℕ) (r : RuleRow) (f : Row least r) (more : List ℕ) where
  abbrev nth : ℕ → ℕ
  nth j = get_or (rule_words r ++ more) j 0

  nth_fine : (j : ℕ) → j < 7 → Fine (get_or parts j Protocol) (nth j) (nth (suc j))
  nth_fine =
      seven (λ j. Fine (get_or parts j Protocol) (nth j) (nth (suc j)))
      (upper_fine Source r.addresses.source f.sources _)
      (lower_fine Source r.addresses.source f.sources)
      (upper_fine Destination r.addresses.destination f.destinations _)
      (lower_fine Destination r.addresses.destination f.destinations)
      (fine (Port Source) _ _ _ _ (lone_told (Port Source) 1 r.ports.source f.from_ports) (lone_sound (Port Source) 1 r.ports.source f.from_ports))
      (fine (Port Destination) _ _ _ _ (lone_told (Port Destination) 1 r.ports.destination f.to_ports) (lone_sound (Port Destination) 1 r.ports.destination f.to_ports))
      (fine Protocol _ _ _ _ (lone_told Protocol 8 r.protocol f.protocols) (lone_sound Protocol 8 r.protocol f.protocols))

  number_shown : rest (2 ^ 29 + r.number) ≡ r.number
  number_shown = omega (arith, f.small)

  pub eight_in_order : Eight least (λ j. get_or (rule_words r ++ more) j 0)
  eight_in_order =
      let e = number_shown in
      record {
        opening = record { is_kind = omega (arith, f.small); small = omega (arith, f.small); above = omega (arith, f.above) };
        others = nth_fine;
      }

  pub row_shown : row_of (λ j. get_or (rule_words r ++ more) j 0) ≡ r
  row_shown = λ j. record {
    number = number_shown j;
    addresses = record { source = address_shown Source r.addresses.source f.sources j; destination = address_shown Destination r.addresses.destination f.destinations j };
    ports = record {
      source = lone_shown (Port Source) 1 r.ports.source f.from_ports j;
      destination = lone_shown (Port Destination) 1 r.ports.destination f.to_ports j;
    };
    protocol = lone_shown Protocol 8 r.protocol f.protocols j;
  }
