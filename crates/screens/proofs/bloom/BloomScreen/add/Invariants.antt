use Rattle.std.proofs.Common.{◌≡◌, drop, fold, vec_items}
use Rattle.screens.specs.Filters.{marked}
use Rattle.screens.proofs.bloom.BloomScreen.add.Given as goal

abbrev pub invariant-loop-bit : goal.invariant-loop-bit
invariant-loop-bit l = fold marked (vec_items l.self.words) (drop l.bit-index l.bit-items) ≡ fold marked (vec_items l.initial.self.words) l.bit-items
