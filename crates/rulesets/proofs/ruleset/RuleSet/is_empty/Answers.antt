use Rattle.std.proofs.Common.{◌∙◌, rules}
use Rattle.rulesets.proofs.Places.{empty_members}
use Rattle.rulesets.proofs.ruleset.RuleSet.is_empty.Goals as goal

pub returns : goal.returns
returns c = c.eq.ensures ∙ empty_members c.args.self (search rules) (search rules) (search rules) (search rules)
