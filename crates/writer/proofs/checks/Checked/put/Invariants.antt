use Rattle.std.proofs.Common.{◌≡◌, take}
use Rattle.std.specs.List.{flat_map}
use Rattle.octets.specs.Output.{put_at}
use Rattle.writer.proofs.Sheets.{rule_bytes}
use Rattle.writer.proofs.checks.Checked.put.Given as goal

abbrev pub invariant-loop-i : goal.invariant-loop-i
invariant-loop-i l = l.out ≡ put_at 0 (flat_map rule_bytes (take l.i l.self.rules.now)) l.initial.out
