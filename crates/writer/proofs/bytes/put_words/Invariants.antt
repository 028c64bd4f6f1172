use Rattle.std.proofs.Common.{◌≡◌, take}
use Rattle.std.specs.List.{flat_map}
use Rattle.sheets.specs.Words.{word_bytes}
use Rattle.octets.specs.Output.{put_at}
use Rattle.writer.proofs.bytes.put_words.Given as goal

abbrev pub invariant-loop-i : goal.invariant-loop-i
invariant-loop-i l = l.out ≡ put_at l.at (flat_map word_bytes (take l.i l.words)) l.initial.out
