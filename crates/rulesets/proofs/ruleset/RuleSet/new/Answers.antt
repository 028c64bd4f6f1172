use lib.ListN.{get_or-replicate}
use Rattle.rulesets.proofs.Places.{members_empty}
use Rattle.rulesets.proofs.ruleset.RuleSet.new.Goals as goal

pub returns : goal.returns
returns c = members_empty _ (λ k l. get_or-replicate 4 k 0 0 l)
