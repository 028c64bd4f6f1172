use Rattle.bench_exports.proofs.lookup.fill.Given as goal

abbrev pub invariant-loop-place : goal.invariant-loop-place
invariant-loop-place g l = g.T.KeyTable.ready l.table
