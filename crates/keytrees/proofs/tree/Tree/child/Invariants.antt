use Rattle.std.proofs.Common.{vec_items}
use Rattle.keytables.specs.Chains.{link_of}
use Rattle.keytrees.specs.Nodes.{Among}
use Rattle.keytrees.proofs.tree.Tree.child.Given as goal

abbrev pub invariant-loop-link : goal.invariant-loop-link
invariant-loop-link l = Among (vec_items l.self.nodes) l.parent l.number (link_of l.link)

abbrev pub decreases-loop-link : goal.decreases-loop-link
decreases-loop-link l = link_of l.link
