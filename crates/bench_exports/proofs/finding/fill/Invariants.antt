use Rattle.bench_exports.proofs.finding.fill.Given as goal

abbrev pub invariant-loop-row : goal.invariant-loop-row
invariant-loop-row g l = g.F.Finder.ready l.finder
