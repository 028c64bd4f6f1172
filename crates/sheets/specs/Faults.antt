-- The layer that each refusal of a sheet belongs to.
use Rattle.std.specs.Prelude.{ℕ, cond, ◌||◌, ◌==◌}
use Rattle.fields.specs.Refusals.{code}
use Rattle.fields.specs.declared.refusal.Refusal.{Refusal}
use Rattle.sheets.specs.declared.fault.Layer.{Layer}
use Rattle.sheets.specs.declared.fault.Layer.TheVariants.{Word, Rule, Sheet}
use Rattle.sheets.specs.declared.fault.Fault.{Fault}

-- by the refusal's number: 2, 3, 11 and 12 are a word's, 1 and 13 a rule's, the others the sheet's
abbrev pub layer_of : ℕ → Layer
layer_of n = cond (n == 2 || n == 3 || n == 11 || n == 12) Word (cond (n == 1 || n == 13) Rule Sheet)

-- the fault of a refusal at a word's place
abbrev pub fault_at : Refusal → ℕ → Fault
fault_at e i = record { refusal = e; place = i; layer = layer_of (code e) }
