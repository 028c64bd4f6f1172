use Rattle.std.proofs.Common.{[], ◌∷◌, ◌++◌, take, sym, ap, ◌∙◌, subst}
use Rattle.std.proofs.lemmas.List.{take_all}
use Rattle.levels.specs.Levels.{nearest}
use Rattle.levels.proofs.Counts.{take_read}
use Rattle.levels.proofs.Nearest.{Nearest, nearest_none, nearest_from, nearest_takes, nearest_aside, nearest_wider, nearest_all}
use Rattle.levels.proofs.nesting.nearest.Goals as goal

pub returns-then-not-around : goal.returns-then-not-around
returns-then-not-around g c = nearest_none g.K.FieldKind.nest c.args.p _ c.whole-whole.ensures c.if-not-around.ensures _

pub loop-q-init : goal.loop-q-init
loop-q-init g c = nearest_from g.K.FieldKind.nest c.args.p _ c.whole-whole.ensures c.if-not-around.ensures

pub loop-q-preserved : goal.loop-q-preserved
loop-q-preserved g c =
    let n = g.K.FieldKind.nest in
    let p = c.args.p in
    let first = take c.loop-q.q-index c.args.patterns.now in
    let q = c.q-item.result in
    let found = c.loop-q.found in
    subst (λ ps. Nearest n p ps c.if-around.found) (take_read c.args.patterns.now c.loop-q.q-index q c.loop-q-test.true c.q-item.is)
    (elim c.if-around.branch [
      | goal.then-around+then-within w ↦ subst (Nearest n p (first ++ q ∷ [])) (sym w.found-is) (nearest_takes n p first q found c.loop-q.invariant w.if-around.ensures w.if-within.ensures)
      | goal.else-around w ↦ subst (Nearest n p (first ++ q ∷ [])) (sym w.found-is) (elim w.else-around.branch [
        | goal.else-around-via-then-around+else-within v ↦ nearest_wider n p first q found c.loop-q.invariant v.if-within.ensures
        | goal.else-around-via-else-around v ↦ nearest_aside n p first q found c.loop-q.invariant v.if-around.ensures
      ])
    ])

pub returns : goal.returns
returns g c =
    let n = g.K.FieldKind.nest in
    sym (nearest_all n c.args.p _ c.loop-q.found c.loop-q.invariant) ∙ ap (λ ps. nearest n.within n.whole ps c.args.p) (take_all c.loop-q.q-index c.args.patterns.now c.loop-q-test.false)
