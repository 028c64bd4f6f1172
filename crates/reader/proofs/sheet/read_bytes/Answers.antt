use Rattle.std.proofs.Common.{◌≡◌, ◌%◌, length, sym, arith}
use Rattle.std.proofs.lemmas.Bool.Decides.{nat_tests}
use Rattle.reader.proofs.Verdicts.{told, told_here}
use Rattle.reader.proofs.sheet.read_bytes.Goals as goal

pub returns-clause-here : goal.returns-clause-here
returns-clause-here c =
    let whole : length c.args.bytes.now % 4 ≡ 0 = grind (arith, nat_tests) in
    let h = rw c.as_chunks.ensures.front at c.read_rules.ensures in
    told_here _ c.args.bytes.now _ _ h (told c.args.bytes.now (sym c.if-is_empty.ensures) whole _ _ h)

pub returns-clause-anywhere : goal.returns-clause-anywhere
returns-clause-anywhere c =
    let whole : length c.args.bytes.now % 4 ≡ 0 = grind (arith, nat_tests) in
    let h = rw c.as_chunks.ensures.front at c.read_rules.ensures in
    told c.args.bytes.now (sym c.if-is_empty.ensures) whole _ _ h
