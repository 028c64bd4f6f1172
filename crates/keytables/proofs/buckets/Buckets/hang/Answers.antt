use Rattle.std.proofs.Common.{vec_items, rules}
use Rattle.std.proofs.lemmas.List.{get_or_read}
use Rattle.keytables.proofs.Rows.{sound_push}
use Rattle.keytables.proofs.buckets.Buckets.hang.Goals as goal

pub invariant_of-self-clause-sound : goal.invariant_of-self-clause-sound
invariant_of-self-clause-sound c =
    let t = c.args.self.now in
    sound_push (vec_items t.heads) (vec_items t.rows) _ _ _ _ _ _ c.push_reserved.ensures.items t.sound
    (search rules) (search (rules, get_or_read)) (search rules) (search rules) (search rules)
