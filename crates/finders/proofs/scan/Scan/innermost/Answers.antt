use Rattle.std.proofs.Common.{rules, sym, subst}
use Rattle.finders.proofs.Nearest.{Going, going_takes, going_passes, going_all}
use Rattle.finders.proofs.scan.Scan.innermost.Goals as goal

pub loop-i-preserved : goal.loop-i-preserved
loop-i-preserved g c =
    let p = c.p-item.result in
    elim c.if-test.branch [
      | goal.then-test w ↦ going_takes _ _ _ _ _ c.loop-i.invariant p (search rules) (search rules) _ c.test.ensures w.if-test.true _ w.nearer.ensures _ w.found-is
      | goal.else-test w ↦ subst (Going _ _ _ _) (sym w.found-is) (going_passes _ _ _ _ _ c.loop-i.invariant p (search rules) (search rules) _ c.test.ensures w.if-test.false)
    ]

pub returns : goal.returns
returns g c = λ t w n.
    let e = going_all _ _ _ _ _ (search rules) c.loop-i.invariant t w n in
    search (rules, e)
