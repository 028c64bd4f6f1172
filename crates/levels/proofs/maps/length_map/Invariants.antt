use Rattle.std.proofs.Common.{take}
use Rattle.levels.proofs.Layers.{Layered}
use Rattle.levels.proofs.maps.length_map.Given as goal

abbrev pub invariant-loop-q : goal.invariant-loop-q
invariant-loop-q g l = Layered l.p (take l.q-index l.held) l.lengths
