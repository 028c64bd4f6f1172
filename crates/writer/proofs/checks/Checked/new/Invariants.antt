use Rattle.std.proofs.Common.{◌≡◌, drop}
use Rattle.sheets.specs.Rows.{rows_refusal}
use Rattle.writer.proofs.checks.Checked.new.Given as goal

-- what is left tells of all the rows
abbrev pub invariant-loop-rule : goal.invariant-loop-rule
invariant-loop-rule l = rows_refusal l.least (drop l.rule-index l.rules) ≡ rows_refusal 0 l.rules
