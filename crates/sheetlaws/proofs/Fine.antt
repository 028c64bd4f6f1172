-- What is in order, test by test: a word of a sheet.
use Rattle.std.proofs.Common.{◌≡◌, ℕ, ◌+◌, ◌-◌, ◌*◌, ◌/◌, ◌^◌, ◌<◌, ◌≤◌, true, false, List, None, arith}
use Rattle.fields.specs.Lengths.{has, clean}
use Rattle.sheets.specs.Words.{kind, rest, side, size, low, kind_due, side_due, bits_due}
use Rattle.sheets.specs.Reading.{at, ends, least, opening_refusal, part_refusal}
use Rattle.sheets.specs.declared.part.Part.{Part}
use Rattle.sheets.specs.declared.part.Part.TheVariants.{Upper, Lower, Port, Protocol}

-- ---- a word that opens a rule
pub record Opens (least w : ℕ) : Type 0 where
  pub is_kind : kind w ≡ 1
  pub small : rest w ≤ 255
  pub above : least ≤ rest w

-- ---- the word w of a part, after the word u
abbrev pub Fits : Part → ℕ → ℕ → Type 0
Fits (Upper s) u w = has 32 1 (size w) ≡ true
Fits (Lower s) u w = (size w ≡ 0) × (clean 32 (size u) (low u * 2 ^ 16 + low w) ≡ true)
Fits (Port s) u w = (has 16 1 (size w) ≡ true) × (clean 16 (size w) (low w) ≡ true)
Fits Protocol u w = (has 8 8 (size w) ≡ true) × (clean 8 (size w) (low w) ≡ true)

pub record Fine (p : Part) (u w : ℕ) : Type 0 where
  pub is_kind : kind w ≡ kind_due p
  pub is_side : side w ≡ side_due p
  pub narrow : low w < 2 ^ bits_due p
  pub fits : Fits p u w

module _ (ws : List ℕ) (i : ℕ) where
  pub part_is : (p : Part) → (part_refusal ws p i ≡ None → Fine p (at ws (i - 1)) (at ws i)) × (Fine p (at ws (i - 1)) (at ws i) → part_refusal ws p i ≡ None)
  part_is p = (λ h. grind arith, λ f. grind arith)

  pub opens_from : opening_refusal ws i ≡ None → ends ws i ≡ false → Opens (least ws i) (at ws i)
  opens_from h n = grind arith

  pub opens_to : Opens (least ws i) (at ws i) → (opening_refusal ws i ≡ None) × (ends ws i ≡ false)
  opens_to o = grind arith

  pub ends_from : opening_refusal ws i ≡ None → ends ws i ≡ true → at ws i ≡ 6 * 2 ^ 29 + i / 8
  ends_from h e = grind arith

  pub ends_to : at ws i ≡ 6 * 2 ^ 29 + i / 8 → i / 8 < 2 ^ 29 → (opening_refusal ws i ≡ None) × (ends ws i ≡ true)
  ends_to h l = grind arith
