use Rattle.std.proofs.Common.{rules}
use Rattle.keytrees.proofs.Ends.{end_more, end_all}
use Rattle.keytrees.proofs.tree.Tree.end.Goals as goal

pub loop-number-preserved : goal.loop-number-preserved
loop-number-preserved c =
    (end_more _ _ _ _ _ _ c.loop-number-test.true c.loop-number.invariant.0 c.in_ok-node.ensures.child, c.in_ok-node.ensures.within)

pub returns-in_err-node-clause-end : goal.returns-in_err-node-clause-end
returns-in_err-node-clause-end c =
    rw c.from_residual.ensures (end_more _ _ _ _ _ _ c.loop-number-test.true c.loop-number.invariant.0 c.in_err-node.ensures.child)

pub returns-clause-end : goal.returns-clause-end
returns-clause-end c = end_all _ c.args.way.now c.loop-number.number-index _ _ (search rules) c.loop-number.invariant.0
