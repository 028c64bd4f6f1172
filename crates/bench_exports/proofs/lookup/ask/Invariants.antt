use Rattle.bench_exports.proofs.lookup.ask.Given as goal

abbrev pub invariant-loop-row : goal.invariant-loop-row
invariant-loop-row g l = g.T.KeyTable.ready l.table
