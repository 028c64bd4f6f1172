use Rattle.std.proofs.Common.{map, vec_items, refl, ◌∙◌, rules}
use Rattle.std.proofs.lemmas.List.{map_push, nil_from_length}
use Rattle.heads.specs.Counts.{levels_of}
use Rattle.heads.specs.Picked.{Picked}
use Rattle.heads.proofs.Picks.{choosing_none, choosing_more, choosing_empty, choosing_all}
use Rattle.heads.proofs.Tallies.{levels_at, heads_chosen}
use Rattle.heads.proofs.heads.choose_heads.Goals as goal

pub loop-init : goal.loop-init
loop-init c =
    let cs = vec_items c.args.counted.now in
    (rw c.clear.ensures.items (choosing_none levels_at (λ x. x.rules) c.args.g cs), c.clear.ensures.len, refl, refl)

pub returns-then-is_empty : goal.returns-then-is_empty
returns-then-is_empty c =
    let cs = vec_items c.args.counted.now in
    let inv = c.loop.invariant in
    let none = nil_from_length (vec_items c.loop.counted) (search rules) in
    record {
      chosen = λ ts k. choosing_empty levels_at (λ x. x.rules) c.args.g cs _ c.loop.counter (rw none at inv.0) ∙ heads_chosen ts cs c.args.g k;
      few = search rules;
      capacity = inv.2 ∙ c.clear.ensures.capacity;
      counted_capacity = inv.3;
    }

pub loop-preserved : goal.loop-preserved
loop-preserved c =
    let cs = vec_items c.args.counted.now in
    let inv = c.loop.invariant in
    let rest = vec_items c.loop.counted in
    let picked : Picked (λ x. x.rules) rest c.most.result = rw c.as_slice.ensures.value at c.most.ensures in
    let more = choosing_more levels_at (λ x. x.rules) c.args.g cs rest (map levels_of (vec_items c.loop.heads)) c.loop.counter c.most.result c.remove-head.result inv.0 c.loop-test.true picked c.remove-head.ensures.value in
    (rw (c.remove-head.ensures.items, c.push_reserved.ensures.items, map_push levels_of (vec_items c.loop.heads) c.remove-head.result.tuple) more, search rules, search rules, search rules)

pub returns : goal.returns
returns c =
    let cs = vec_items c.args.counted.now in
    let inv = c.loop.invariant in
    record {
      chosen = λ ts k. choosing_all levels_at (λ x. x.rules) c.args.g cs _ _ _ inv.0 c.loop-test.false ∙ heads_chosen ts cs c.args.g k;
      few = search rules;
      capacity = inv.2 ∙ c.clear.ensures.capacity;
      counted_capacity = inv.3;
    }
