use Rattle.std.proofs.Common.{ℕ, ◌/◌, ◌%◌, ◌^◌, eqb, get_or, ap}
use Rattle.std.proofs.lemmas.Nat.{and_mask}
use Rattle.rulesets.specs.Sets.{has}
use Rattle.rulesets.proofs.ruleset.RuleSet.has.Goals as goal

pub returns : goal.returns
unfolding has
returns c = ap (λ (d : ℕ). eqb d 1) (and_mask (get_or c.args.self.words (c.args.n / 64) 0 / 2 ^ (c.args.n % 64)) 1)
