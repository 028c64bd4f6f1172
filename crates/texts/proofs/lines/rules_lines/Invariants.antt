use Rattle.std.proofs.Common.{◌≡◌, take, string_bytes}
use Rattle.texts.specs.Text.{rules_lines}
use Rattle.texts.proofs.lines.rules_lines.Given as goal

abbrev pub invariant-loop-rule : goal.invariant-loop-rule
invariant-loop-rule l = string_bytes l.text ≡ rules_lines (take l.rule-index l.rules)
