use Rattle.sheetlaws.proofs.Written.{written_is_read_lem}
use Rattle.sheetlaws.proofs.written_is_read.Goals as goal

pub returns : goal.returns
returns c = written_is_read_lem
