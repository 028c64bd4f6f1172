use Rattle.std.proofs.Common.{◌≡◌, take}
use Rattle.blocks.specs.Blocks.{block_bytes}
use Rattle.octets.specs.Output.{put_at}
use Rattle.blocks.proofs.writing.put_block.Given as goal

abbrev pub invariant-loop-i : goal.invariant-loop-i
invariant-loop-i l = l.out ≡ put_at 0 (block_bytes (take l.i l.headers)) l.initial.out
