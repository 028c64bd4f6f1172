use Rattle.std.proofs.Common.{rules}
use Rattle.lines.proofs.Puts.{put_then, put_same}
use Rattle.lines.proofs.line.HeaderLineLine.print.Goals as goal

pub returns : goal.returns
returns c =
    put_same (put_then c.put_number.ensures (put_then c.put.ensures (put_then c.print_rules.ensures (put_then c.put-2.ensures (put_then c.put_number-2.ensures c.put-3.ensures))))) (search rules)
