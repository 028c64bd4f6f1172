use Rattle.blocks.proofs.Trips.{written_is_read_lem}
use Rattle.blocks.proofs.written_is_read.Goals as goal

pub returns : goal.returns
returns c = written_is_read_lem
