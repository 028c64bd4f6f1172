use Rattle.std.proofs.Common.{◌≡◌, [], vec_items, refl, ap, length, rules}
use Rattle.keytables.proofs.Rows.{sound_none, stored_none}
use Rattle.keytables.proofs.buckets.Buckets.new.Goals as goal

pub invariant_of-result-clause-sound : goal.invariant_of-result-clause-sound
invariant_of-result-clause-sound c = sound_none _ _ 4096 (c.in_ok-heads.ensures.items_if_clones_equal (λ y e. search rules)) (search rules)

pub returns : goal.returns
returns c =
    let e : vec_items c.in_ok-rows.rows ≡ [] = search rules in
    (λ q. stored_none _ q e, ap length e, refl)
