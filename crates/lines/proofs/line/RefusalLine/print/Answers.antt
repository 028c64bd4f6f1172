use Rattle.std.proofs.Common.{rules}
use Rattle.lines.proofs.Puts.{put_then, put_same}
use Rattle.lines.proofs.line.RefusalLine.print.Goals as goal

pub returns : goal.returns
returns c = put_same (put_then c.put.ensures (put_then c.put_number.ensures c.put-2.ensures)) (search rules)
