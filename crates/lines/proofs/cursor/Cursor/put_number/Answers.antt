use Rattle.std.proofs.Common.{sym}
use Rattle.std.proofs.lemmas.Fmt.{decimal_digit}
use Rattle.lines.proofs.Puts.{put_same}
use Rattle.lines.proofs.cursor.Cursor.put_number.Goals as goal

pub returns-then-n-lt10 : goal.returns-then-n-lt10
returns-then-n-lt10 c = put_same c.put.ensures (sym (decimal_digit c.args.n c.if-n-lt10.true))
