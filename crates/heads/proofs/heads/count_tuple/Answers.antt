use Rattle.std.proofs.Common.{◌≡◌, true, false, vec_items, sym, ap, ◌∙◌, refl, rules, tests, arith}
use Rattle.std.proofs.ByRecursion.{All-from_get_or}
use Rattle.std.proofs.lemmas.Iterator.{IsFirst-from_position, YieldsList-from_slice}
use Rattle.std.proofs.lemmas.List.{get_or_default}
use Rattle.groups.specs.Tuples.{equal}
use Rattle.heads.specs.Counts.{levels_of}
use Rattle.heads.specs.declared.counted.Counted.{Counted}
use Rattle.heads.proofs.Tallies.{levels_at, counts_raised, counts_new}
use Rattle.heads.proofs.heads.count_tuple.Goals as goal

pub returns-in-Some-clause-counts : goal.returns-in-Some-clause-counts
returns-in-Some-clause-counts c ts few k =
    let cs = vec_items c.args.counted.now in
    let t = levels_of c.args.tuple in
    let d = c.index.result.now in
    let i = c.in-Some.i in
    let first = IsFirst-from_position _ _ _ (λ (x : Counted). equal t (levels_at x) ≡ true) (λ (x : Counted). equal t (levels_at x) ≡ false) c.in-Some.ensures.ran (YieldsList-from_slice cs cc) (λ x q k. search (rules, tests)) (λ x q k. search (rules, tests)) in
    let l = first.0 in
    let kept = c.index_mut.ensures.value ∙ get_or_default cs i _ d l ∙ sym c.index.ensures in
    counts_raised ts t cs i _ d few k l (rw (← c.index.ensures) at (first.1 d)) c.index.ensures (ap levels_at kept) c.saturating_add.ensures

pub returns-in-None-clause-counts : goal.returns-in-None-clause-counts
returns-in-None-clause-counts c ts few k =
    let cs = vec_items c.args.counted.now in
    let t = levels_of c.args.tuple in
    let none = IsFirst-from_position _ _ _ (λ (x : Counted). equal t (levels_at x) ≡ true) (λ (x : Counted). equal t (levels_at x) ≡ false) c.in-None.ensures.ran (YieldsList-from_slice cs cc) (λ x q k. search (rules, tests)) (λ x q k. search (rules, tests)) in
    let new : Counted = record { tuple = c.args.tuple; rules = 1 } in
    rw c.push_reserved.ensures.items (counts_new ts cs new k (All-from_get_or _ cs new (λ i l. none i new (omega arith) l)) refl)
