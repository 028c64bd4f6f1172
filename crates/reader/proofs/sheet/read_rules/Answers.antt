use Rattle.std.proofs.Common.{rules}
use Rattle.reader.proofs.Turns.{reached_more}
use Rattle.reader.proofs.sheet.read_rules.Goals as goal

pub loop-number-preserved : goal.loop-number-preserved
loop-number-preserved c =
    reached_more _ _ _ c.loop-number.invariant _ c.len-place.ensures.value c.in-Some.number (search rules) (search rules) (search rules) (search rules) c.in_ok-rule.rule _
    c.push.ensures.items (search rules) (search rules)
