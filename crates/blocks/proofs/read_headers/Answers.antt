use Rattle.std.proofs.Common.{◌≡◌, ◌%◌, length, false, refl, arith}
use Rattle.std.proofs.lemmas.Bool.Decides.{nat_tests}
use Rattle.fields.specs.Lists.{any}
use Rattle.blocks.specs.Blocks.{spoiled, starts}
use Rattle.blocks.proofs.Headers.{headers_of_block, spoiled_of_block}
use Rattle.blocks.proofs.Trips.{accepted}
use Rattle.blocks.proofs.read_headers.Goals as goal

pub returns : goal.returns
returns c =
    let bs = c.args.bytes.now in
    let whole : length bs % 16 ≡ 0 = grind (arith, nat_tests) in
    let clean : any (spoiled bs) (starts bs) ≡ false = cc (spoiled_of_block bs) in
    rw (accepted bs (length c.args.headers.now) whole clean (omega arith)) record { answer = refl; count = c.as_chunks.ensures.front_len; list = cc (headers_of_block bs) }
