use Rattle.support_cases.proofs.table_calls.compare.Given as goal

abbrev pub invariant-loop : goal.invariant-loop
invariant-loop g l = g.A.KeyTable.ready l.one × g.B.KeyTable.ready l.other
