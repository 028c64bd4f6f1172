use Rattle.std.proofs.Common.{◌≡◌, get_or, vec_items, rules}
use Rattle.std.proofs.lemmas.List.{get_or_read}
use Rattle.keytables.specs.Rows.{no_row}
use Rattle.keytables.proofs.Rows.{sound_set}
use Rattle.keytables.proofs.buckets.BucketsKeyTable.put.Goals as goal

pub invariant_of-self-clause-sound : goal.invariant_of-self-clause-sound
invariant_of-self-clause-sound c =
    let t = c.args.self.now in
    let rows = vec_items t.rows in
    let y : c.index_mut.result.now ≡ get_or rows c.in-Some.i no_row = search (rules, get_or_read) in
    rw y (sound_set (vec_items t.heads) rows c.in-Some.i c.args.entry (search rules) t.sound)
