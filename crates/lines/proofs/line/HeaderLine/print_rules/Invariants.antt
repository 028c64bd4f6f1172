use Rattle.std.proofs.Common.{take}
use Rattle.std.specs.List.{flat_map}
use Rattle.lines.specs.Cursors.{Put}
use Rattle.lines.proofs.Texts.{after_space}
use Rattle.lines.proofs.line.HeaderLine.print_rules.Given as goal

abbrev pub invariant-loop-rule : goal.invariant-loop-rule
invariant-loop-rule l = Put l.initial.cursor (flat_map after_space (take l.rule-index l.self.rules.now)) l.cursor
