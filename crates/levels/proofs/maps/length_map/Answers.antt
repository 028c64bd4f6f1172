use Rattle.std.proofs.Common.{[], ◌∷◌, ◌++◌, length, take, sym, subst, true}
use Rattle.std.proofs.lemmas.List.{get_or_read, take_all}
use Rattle.std.proofs.lemmas.Bool.{ltb-true}
use Rattle.levels.specs.Maps.{Maps}
use Rattle.levels.proofs.Counts.{take_read}
use Rattle.levels.proofs.Layers.{Layered, layered_sets, layered_aside, layered_whole, maps_from}
use Rattle.levels.proofs.maps.length_map.Goals as goal

pub loop-q-preserved : goal.loop-q-preserved
loop-q-preserved g c =
    let p = c.in_ok-p.field-0.now in
    let first = take c.loop-q.q-index c.args.held.now in
    let q = c.q-item.result in
    subst (λ qs. Layered p qs c.if-bits-gt0.lengths) (take_read c.args.held.now c.loop-q.q-index q c.loop-q-test.true c.q-item.is)
    (elim c.if-bits-gt0.branch [
      | goal.then-bits-gt0+then-within w ↦ subst (Layered p (first ++ q ∷ [])) (sym w.lengths-is) (layered_sets p first q _ c.loop-q.invariant _ c.length-bits.ensures w.if-bits-gt0.true w.if-within.ensures)
      | goal.else-bits-gt0 w ↦ subst (Layered p (first ++ q ∷ [])) (sym w.lengths-is) (elim w.else-bits-gt0.branch [
        | goal.else-bits-gt0-via-then-bits-gt0+else-within v ↦ layered_aside p first q _ c.loop-q.invariant v.if-within.ensures
        | goal.else-bits-gt0-via-else-bits-gt0 v ↦ layered_whole p first q _ c.loop-q.invariant _ c.length-bits.ensures v.if-bits-gt0.false
      ])
    ])

pub returns : goal.returns
returns g c =
    let p = c.in_ok-p.field-0.now in
    let held = c.args.held.now in
    let within = ltb-true c.args.place (length held) (sym {a = true} c.in_ok-p.ensures.lookup.0) in
    let all = maps_from p held c.loop-q.lengths (subst (λ qs. Layered p qs c.loop-q.lengths) (take_all _ held c.loop-q-test.false) c.loop-q.invariant) in
    (within, λ d. subst (λ q. Maps g.row.W g.row.S held q c.loop-q.lengths) (get_or_read held c.args.place p within c.in_ok-p.ensures.lookup.1 d) all)
