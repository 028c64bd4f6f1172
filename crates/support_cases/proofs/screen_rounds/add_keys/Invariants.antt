use Rattle.support_cases.proofs.screen_rounds.add_keys.Given as goal

abbrev pub invariant-loop : goal.invariant-loop
invariant-loop g l = g.S.Screen.ready l.screen
