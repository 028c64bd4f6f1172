use Rattle.std.proofs.Common.{◌≡◌, ℕ, Bool, true, false, [], ◌∷◌, ◌++◌, take, sym, ap, ◌∙◌, subst, arith}
use Rattle.std.proofs.lemmas.List.{take_all}
use Rattle.levels.specs.Levels.{around, level}
use Rattle.levels.proofs.Counted.{Counted, counted_from, counted_takes, counted_marked, counted_aside, counted_few}
use Rattle.levels.proofs.Counts.{take_read}
use Rattle.levels.proofs.nesting.level.Goals as goal

pub overflow_add-count : goal.overflow_add-count
overflow_add-count g c = omega (arith, counted_few _ _ _ _ c.loop-i.invariant c.marked.ensures.few.0)

pub loop-i-init : goal.loop-i-init
loop-i-init g c =
    let n = g.K.FieldKind.nest in
    let at = λ (m : ℕ). Counted n c.args.p [] m in
    let from = λ (b : Bool) (e : b ≡ around n.within c.args.p c.whole.result). counted_from n c.args.p b (e ∙ ap (around n.within c.args.p) c.whole.ensures) in
    elim c.if-around.branch [
      | goal.then-around w ↦ subst at (sym w.count-is) (from true w.if-around.ensures)
      | goal.else-around w ↦ subst at (sym w.count-is) (from false w.if-around.ensures)
    ]

pub loop-i-preserved : goal.loop-i-preserved
loop-i-preserved g c =
    let n = g.K.FieldKind.nest in
    let first = take c.loop-i.i c.args.patterns.now in
    let q = c.index-patterns-i.result in
    let at = λ (m : ℕ). Counted n c.args.p (first ++ q ∷ []) m in
    subst (λ ps. Counted n c.args.p ps c.if-around-2.count) (take_read c.args.patterns.now c.loop-i.i q c.loop-i-test.true c.index-patterns-i.is)
    (elim c.if-around-2.branch [
      | goal.then-around-2+then-not-marked w ↦
          subst at (sym w.count-is) (counted_takes n c.args.p first q _ c.loop-i.invariant w.if-around-2.ensures w.if-not-marked.ensures.found w.marked.ensures.few.1)
      | goal.else-around-2 w ↦ subst at (sym w.count-is) (elim w.else-around-2.branch [
        | goal.else-around-2-via-then-around-2+else-not-marked v ↦ counted_marked n c.args.p first q _ c.loop-i.invariant v.if-not-marked.ensures.found
        | goal.else-around-2-via-else-around-2 v ↦ counted_aside n c.args.p first q _ c.loop-i.invariant v.if-around-2.ensures
      ])
    ])

pub returns : goal.returns
returns g c = c.loop-i.invariant.is ∙ ap (λ ps. level g.K.FieldKind.nest.within g.K.FieldKind.nest.whole ps c.args.p) (take_all _ _ c.loop-i-test.false)
