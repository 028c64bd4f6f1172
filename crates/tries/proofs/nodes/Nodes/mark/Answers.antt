use Rattle.std.proofs.Common.{refl, arith}
use Rattle.tries.proofs.Grows.{tree_labelled}
use Rattle.tries.proofs.nodes.Nodes.mark.Goals as goal

pub invariant_of-self-clause-tree : goal.invariant_of-self-clause-tree
invariant_of-self-clause-tree c = tree_labelled _ _ _ _ c.index_mut.ensures.value refl refl (omega arith) c.args.self.now.tree
