-- What the rows of a rule list mean to five kinds.
use Rattle.std.specs.Prelude.{ℕ, zero, suc, Ok, Err, Option, Result}
pub use Rattle.fields.specs.Checked.{is, some_place, first_refusal}
use Rattle.fields.specs.Refusals.{refusal}
use Rattle.fields.specs.declared.refusal.Refusal.{Refusal}
use Rattle.groups.specs.Rules.{Rule}
use Rattle.places.specs.Kinds.{Kind}
use Rattle.sheets.specs.declared.row.PatternRow.{PatternRow}
use Rattle.sheets.specs.declared.row.RuleRow.{RuleRow}

-- what a row asks of a place
abbrev pub part_at : RuleRow → ℕ → PatternRow
part_at r zero = r.addresses.source
part_at r (suc zero) = r.addresses.destination
part_at r (suc (suc zero)) = r.ports.source
part_at r (suc (suc (suc zero))) = r.ports.destination
part_at r (suc (suc (suc (suc i)))) = r.protocol

-- what a kind makes of a part
abbrev pub made : (K : Kind) → PatternRow → Result K.Pattern Refusal
made K p = K.nest.make p.length.bits p.number

-- the pattern of a part; a part that the kind refuses has none, and counts as the whole pattern
abbrev pub pattern_or_whole : (K : Kind) → Result K.Pattern Refusal → K.Pattern
pattern_or_whole K (Ok p) = p
pattern_or_whole K (Err e) = K.nest.whole

abbrev pub pattern_of : (K : Kind) → PatternRow → K.Pattern
pattern_of K p = pattern_or_whole K (made K p)

module _ (kind : ℕ → Kind) where
  -- what a row's patterns are refused with
  abbrev pub patterns_refusal : RuleRow → Option ℕ
  patterns_refusal r = first_refusal (λ i. refusal (made (kind i) (part_at r i)))

  -- the rule of a row
  abbrev pub rule_of : RuleRow → Rule (λ i. (kind i).Pattern)
  rule_of r = record { number = r.number; at = λ i. pattern_of (kind i) (part_at r i) }
