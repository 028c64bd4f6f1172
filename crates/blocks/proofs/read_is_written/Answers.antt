use Rattle.blocks.proofs.Trips.{read_is_written_lem}
use Rattle.blocks.proofs.read_is_written.Goals as goal

pub returns : goal.returns
returns c = read_is_written_lem
