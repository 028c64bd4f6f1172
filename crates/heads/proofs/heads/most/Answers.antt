use Rattle.std.proofs.Common.{ap, arith}
use Rattle.std.proofs.lemmas.List.MinMax.{IsStrictWeakOrder-flip, IsStrictWeakOrder-by_number, IsFirstBest-none, IsFirstBest-takes, IsFirstBest-keeps}
use Rattle.std.proofs.lemmas.Bool.{lt-ltb, le-ltb}
use Rattle.std.specs.Cmp.{IsStrictWeakOrder}
use Rattle.heads.specs.declared.counted.Counted.{Counted}
use Rattle.heads.proofs.Picks.{above, picked_all}
use Rattle.heads.proofs.heads.most.Goals as goal
use Rattle.heads.proofs.heads.most.Goals.{then-counted-i, else-counted-i}

order : IsStrictWeakOrder (above (λ (c : Counted). c.rules))
order = IsStrictWeakOrder-flip _ (IsStrictWeakOrder-by_number (λ c. c.rules))

pub loop-i-init : goal.loop-i-init
loop-i-init c = IsFirstBest-none order c.args.counted.now

pub loop-i-preserved : goal.loop-i-preserved
loop-i-preserved c =
    let counted = c.args.counted.now in
    let b = c.loop-i.best in
    let x = c.index-counted-i.result in
    let y = c.index-counted-best.result in
    let at = ap (λ (z : Counted). z.rules) c.index-counted-i.is in
    let best = ap (λ (z : Counted). z.rules) c.index-counted-best.is in
    elim c.if-counted-i.branch [
      | then-counted-i w ↦ rw w.best-is (IsFirstBest-takes order counted c.loop-i.i b x y c.loop-i.invariant c.loop-i-test.true c.index-counted-i.is c.index-counted-best.is (lt-ltb y.rules x.rules (omega (arith, at, best))))
      | else-counted-i w ↦ rw w.best-is (IsFirstBest-keeps order counted c.loop-i.i b x y c.loop-i.invariant c.loop-i-test.true c.index-counted-i.is c.index-counted-best.is (le-ltb y.rules x.rules (omega (arith, at, best))))
    ]

pub returns : goal.returns
returns c = picked_all (λ c. c.rules) _ _ _ c.loop-i.invariant c.requires c.loop-i-test.false c.loop-i.auto.i-end
