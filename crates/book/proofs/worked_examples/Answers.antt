use Rattle.book.proofs.Worked.{worked}
use Rattle.book.proofs.worked_examples.Goals as goal

pub returns : goal.returns
returns c = worked
