use Rattle.std.proofs.Common.{arith}
use Rattle.tries.proofs.Holds.{ready_more}
use Rattle.tries.proofs.trie.TrieFinder.take.Goals as goal

pub invariant_of-self-clause-ready : goal.invariant_of-self-clause-ready
invariant_of-self-clause-ready g c =
    ready_more g.K.Spelled.spelling _ _ _ c.args.p _ _ c.path.ensures c.args.self.now.ready c.insert.ensures.here c.insert.ensures.others (omega arith)
    c.in_default.ensures (omega arith) (omega (arith, c.insert.ensures.long)) _ c.push_reserved.ensures.items
