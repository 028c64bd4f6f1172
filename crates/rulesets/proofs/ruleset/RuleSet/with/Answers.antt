use Rattle.std.proofs.Common.{ℕ, ◌/◌, ◌%◌, get_or, set, ap, arith}
use lib.Bits.{bit_or}
use Rattle.std.proofs.lemmas.Nat.{mod_below, one_shl}
use Rattle.rulesets.proofs.Words.{has_with}
use Rattle.rulesets.proofs.ruleset.RuleSet.with.Goals as goal

pub returns : goal.returns
returns c =
    let n = c.args.n in
    let words = c.args.self.words in
    has_with c.args.self _ n (omega (arith, c.ranges.n))
    (ap (λ (bit : ℕ). set words (n / 64) (bit_or (get_or words (n / 64) 0) bit)) (one_shl (n % 64) 64 (mod_below n 64 (omega arith))))
