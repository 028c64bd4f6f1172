use Rattle.std.proofs.Common.{◌-◌}
use Rattle.reader.specs.Readers.{words_of}
use Rattle.reader.proofs.Turns.{Reached}
use Rattle.reader.proofs.sheet.read_rules.Given as goal

abbrev pub invariant-loop-number : goal.invariant-loop-number
invariant-loop-number l = Reached (words_of l.words) l.lowest l.rules.items

abbrev pub decreases-loop-number : goal.decreases-loop-number
decreases-loop-number l = 256 - l.lowest
