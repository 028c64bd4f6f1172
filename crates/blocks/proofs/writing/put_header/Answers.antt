use Rattle.std.proofs.Common.{◌+◌, ◌-◌, sym, refl, ◌∙◌, arith}
use Rattle.std.proofs.lemmas.Slice.{put_mid-paste}
use Rattle.blocks.specs.Blocks.{header_bytes}
use Rattle.octets.proofs.Puts.{put_is_paste}
use Rattle.blocks.proofs.writing.put_header.Goals as goal

pub returns : goal.returns
returns c =
    let place = c.args.place in
    put_mid-paste place (place + 16 - place) c.args.out.now c.copy_from_slice.new.self (header_bytes c.args.header) 16 (cc) (omega arith) refl
    ∙ sym (put_is_paste place (header_bytes c.args.header) c.args.out.now)
