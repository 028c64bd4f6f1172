use Rattle.std.proofs.Common.{refl}
use Rattle.rulesets.proofs.Words.{ands, has_op}
use Rattle.rulesets.proofs.ops.RuleSetBitAnd.bitand.Goals as goal

pub returns : goal.returns
returns c = has_op ands c.args.self c.args.other _ refl
