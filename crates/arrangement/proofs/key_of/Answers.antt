use Rattle.std.proofs.Common.{ap, rules}
use Rattle.fields.proofs.ByPlace.{by_place}
use Rattle.arrangement.proofs.key_of.Goals as goal

pub returns : goal.returns
returns c =
    let told = c.map.ensures in
    ap (λ labels. record { subset = c.args.subset; labels = labels }) (by_place _ _ (search (rules, told 0)) (search (rules, told 1)) (search (rules, told 2)) (search (rules, told 3)) (search (rules, told 4)))
