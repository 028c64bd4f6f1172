use Rattle.std.proofs.Common.{vec_items}
use Rattle.keytrees.specs.Nodes.{Going}
use Rattle.keytrees.proofs.tree.Tree.grow.Given as goal

abbrev pub invariant-loop-number : goal.invariant-loop-number
invariant-loop-number l = Going (vec_items l.initial.self.nodes) (vec_items l.self.nodes) l.way l.number-index l.node
