use Rattle.std.proofs.Common.{refl}
use Rattle.rulesets.proofs.Words.{ors, has_op}
use Rattle.rulesets.proofs.ops.RuleSetBitOr.bitor.Goals as goal

pub returns : goal.returns
returns c = has_op ors c.args.self c.args.other _ refl
