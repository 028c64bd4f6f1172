use Rattle.std.proofs.Common.{◌^◌, ◌<◌, get_or, rules}
use Rattle.std.proofs.ByRecursion.{has_get_or}
use Rattle.levels.proofs.Layers.{layered_from, layered_level}
use Rattle.levels.proofs.maps.level_by_map.Goals as goal

pub returns : goal.returns
returns g c =
    let held = c.args.held.now in
    let map = c.in_ok-map.map.lengths in
    let known = c.in_ok-map.ensures in
    let h : map < 2 ^ 64 = search rules in
    (known.0, λ d. let p = get_or held c.args.place d in layered_level p held map (layered_from p held map (known.1 d)) h (has_get_or held c.args.place d known.0))
