use Rattle.std.proofs.Common.{sym, arith, rules}
use Rattle.std.proofs.lemmas.Nat.{ones-le}
use Rattle.rulesets.proofs.Places.{length_members}
use Rattle.rulesets.proofs.ruleset.RuleSet.count.Goals as goal

pub overflow_add-result : goal.overflow_add-result
overflow_add-result c = search (rules, ones-le 64)

pub overflow_add-result-2 : goal.overflow_add-result-2
overflow_add-result-2 c = search (rules, ones-le 64)

pub overflow_add-result-3 : goal.overflow_add-result-3
overflow_add-result-3 c = search (rules, ones-le 64)

pub overflow_cast-result : goal.overflow_cast-result
overflow_cast-result c = search (rules, ones-le 64)

pub returns : goal.returns
returns c = sym (length_members c.args.self (omega arith) (omega arith) (omega arith) (omega arith))
