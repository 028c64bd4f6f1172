use Rattle.std.proofs.Common.{rules}
use Rattle.tries.proofs.Holds.{ready_root}
use Rattle.tries.proofs.trie.TrieFinder.clear.Goals as goal

pub invariant_of-self-clause-ready : goal.invariant_of-self-clause-ready
invariant_of-self-clause-ready g c = search (rules, ready_root)
