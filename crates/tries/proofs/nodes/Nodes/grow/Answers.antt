use Rattle.std.proofs.Common.{arith}
use Rattle.tries.proofs.Grows.{tree_turned}
use Rattle.tries.proofs.nodes.Nodes.grow.Goals as goal

pub invariant_of-self-clause-tree : goal.invariant_of-self-clause-tree
invariant_of-self-clause-tree c =
    tree_turned _ _ _ _ _ _ _ c.push_reserved.ensures.items c.index_mut.ensures.value c.turn.ensures (omega arith) (omega arith) c.requires.nothing c.args.self.now.tree
