use Rattle.bench_exports.proofs.screening.fill.Given as goal

abbrev pub invariant-loop-row : goal.invariant-loop-row
invariant-loop-row g l = g.S.Screen.ready l.screen
