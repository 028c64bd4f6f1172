use Rattle.std.proofs.Common.{◌≡◌, ◌+◌, ◌-◌, ◌/◌, ◌%◌, ◌^◌, sym, refl, ◌∙◌, mod-eq_of_lt, arith}
use Rattle.std.proofs.lemmas.Slice.{put_mid-paste}
use Rattle.sheets.specs.Words.{word_bytes}
use Rattle.octets.proofs.Puts.{put_is_paste}
use Rattle.writer.proofs.bytes.put_word.Goals as goal

pub returns : goal.returns
returns c =
    let w = c.args.word in
    let at = c.args.at in
    let top : w / 2 ^ 24 % 256 ≡ w / 2 ^ 24 = mod-eq_of_lt (omega arith) in
    put_mid-paste at (at + 4 - at) c.args.out.now c.copy_from_slice.new.self (word_bytes w) 4 (cc) (omega arith) refl
    ∙ sym (put_is_paste at (word_bytes w) c.args.out.now)
