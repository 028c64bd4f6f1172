use Rattle.std.proofs.Common.{◌≡◌, ◌++◌, map, take, drop}
use Rattle.blocks.specs.Blocks.{header_at}
use Rattle.blocks.proofs.reading.fill_list.Given as goal

abbrev pub invariant-loop-i : goal.invariant-loop-i
invariant-loop-i l = l.headers ≡ map (λ bs. header_at bs 0) (take l.i l.block) ++ drop l.i l.initial.headers
