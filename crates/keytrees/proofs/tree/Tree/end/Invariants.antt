use Rattle.std.proofs.Common.{◌≡◌, ◌<◌, length, drop, vec_items}
use Rattle.keytrees.specs.Nodes.{end_of}
use Rattle.keytrees.proofs.tree.Tree.end.Given as goal

abbrev pub invariant-loop-number : goal.invariant-loop-number
invariant-loop-number l =
    let nodes = vec_items l.self.nodes in
    (end_of nodes l.node (drop l.number-index l.way) ≡ end_of nodes 0 l.way) × (l.node < length nodes)
