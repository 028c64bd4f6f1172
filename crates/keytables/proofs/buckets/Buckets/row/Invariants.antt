use Rattle.std.proofs.Common.{length, vec_items}
use Rattle.keytables.specs.Chains.{link_of, Way}
use Rattle.keytables.specs.Rows.{bucket, chain_of, has_key}
use Rattle.keytables.proofs.buckets.Buckets.row.Given as goal

abbrev pub invariant-loop-link : goal.invariant-loop-link
invariant-loop-link l =
    let rows = vec_items l.self.rows in
    Way (chain_of rows) (length rows) (bucket l.key) (has_key rows l.key) (link_of l.link)

abbrev pub decreases-loop-link : goal.decreases-loop-link
decreases-loop-link l = link_of l.link
