use Rattle.sheetlaws.proofs.Read.{read_is_written_lem}
use Rattle.sheetlaws.proofs.read_is_written.Goals as goal

pub returns : goal.returns
returns c = read_is_written_lem
