use Rattle.std.proofs.Common.{refl, arith}
use Rattle.sheets.specs.Words.{word_bytes}
use Rattle.octets.proofs.Puts.{put_more}
use Rattle.writer.proofs.bytes.put_words.Goals as goal

pub loop-i-preserved : goal.loop-i-preserved
loop-i-preserved c =
    let more = put_more word_bytes 4 (λ w. refl) c.args.at _ c.args.words.now c.loop-i.i 0 c.args.out.now c.loop-i-test.true (omega arith) refl in
    cc
