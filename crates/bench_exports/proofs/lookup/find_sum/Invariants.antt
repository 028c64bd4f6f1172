use Rattle.bench_exports.proofs.lookup.find_sum.Given as goal

abbrev pub invariant-loop : goal.invariant-loop
invariant-loop g l = g.T.KeyTable.ready l.table
