use Rattle.support_cases.proofs.finder_calls.compare.Given as goal

abbrev pub invariant-loop : goal.invariant-loop
invariant-loop g l = g.A.Finder.ready l.one × g.B.Finder.ready l.other
