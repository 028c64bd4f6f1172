use Rattle.std.proofs.Common.{arith}
use Rattle.files.proofs.file_bytes.Goals as goal

pub returns : goal.returns
returns c = omega (arith, c.truncate.ensures.len)
