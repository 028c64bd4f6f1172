use Rattle.keytrees.proofs.Ends.{going_none, going_more}
use Rattle.keytrees.proofs.tree.Tree.grow.Goals as goal

pub loop-number-init : goal.loop-number-init
loop-number-init c = going_none _ _ c.args.self.now.grown.root

pub loop-number-preserved : goal.loop-number-preserved
loop-number-preserved c =
    let e = c.branch-node.ensures in
    going_more _ _ _ _ _ _ _ c.loop-number.invariant c.loop-number-test.true e.kept e.few e.child e.within
