use Rattle.std.proofs.Common.{arith}
use Rattle.std.proofs.lemmas.List.{take_all}
use Rattle.lines.proofs.Puts.{put_none, put_then, put_more}
use Rattle.lines.proofs.Texts.{after_space, spaced_some}
use Rattle.lines.proofs.line.HeaderLine.print_rules.Goals as goal

pub loop-rule-init : goal.loop-rule-init
loop-rule-init c = put_none _ (omega arith)

pub loop-rule-preserved : goal.loop-rule-preserved
loop-rule-preserved c =
    put_more after_space c.args.self.now.rules.now c.loop-rule.rule-index _ c.loop-rule-test.true c.loop-rule.invariant (put_then c.put-in-loop-rule.ensures (rw c.from.ensures at c.put_number.ensures))

pub returns : goal.returns
returns c = rw (spaced_some c.args.self.now.rules.now c.if-is_empty.ensures) (rw (take_all c.loop-rule.rule-index c.args.self.now.rules.now c.loop-rule-test.false) at c.loop-rule.invariant)
