use Rattle.keytables.proofs.Rows.{stored_none}
use Rattle.keytables.proofs.buckets.BucketsKeyTable.clear.Goals as goal

pub returns-clause-map : goal.returns-clause-map
returns-clause-map c = λ q. stored_none _ q c.clear.ensures.items
