use Rattle.tries.proofs.Holds.{ready_root}
use Rattle.tries.proofs.trie.Trie.new.Goals as goal

pub invariant_of-result-clause-ready : goal.invariant_of-result-clause-ready
invariant_of-result-clause-ready g c = ready_root g.K.Spelled.spelling _ _ c.in_ok-nodes.ensures c.in_ok-patterns.ensures.items
