use Rattle.groups.proofs.Totals.{total_counts_lem}
use Rattle.groups.proofs.total_counts.Goals as goal

pub returns : goal.returns
returns g c = total_counts_lem
