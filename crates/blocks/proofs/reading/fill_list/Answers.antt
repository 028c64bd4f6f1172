use Rattle.std.proofs.Common.{[], arith}
use Rattle.blocks.specs.Blocks.{header_at}
use Rattle.blocks.proofs.Steps.{put_made}
use Rattle.blocks.proofs.reading.fill_list.Goals as goal

pub loop-i-preserved : goal.loop-i-preserved
loop-i-preserved c =
    let made = put_made (λ bs. header_at bs 0) c.args.block.now c.args.headers.now c.loop-i.i [] (omega arith) (omega arith) in
    cc
