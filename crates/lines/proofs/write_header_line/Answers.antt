use Rattle.std.proofs.Common.{◌≡◌, ◌<◌, length, true, nat_lt, arith, refl}
use Rattle.std.proofs.lemmas.Bool.{lt-ltb}
use Rattle.lines.specs.Lines.{header_line}
use Rattle.lines.proofs.Texts.{longer}
use Rattle.lines.proofs.write_header_line.Goals as goal

pub returns-then-out-rules-clause-answer : goal.returns-then-out-rules-clause-answer
returns-then-out-rules-clause-answer c =
    let short : length c.args.out.now < length (header_line c.args.index c.args.rules.now c.args.hits) = omega (arith, longer c.args.index c.args.rules.now c.args.hits) in
    rw (lt-ltb _ _ short) refl

pub returns-then-out-rules-clause-out : goal.returns-then-out-rules-clause-out
returns-then-out-rules-clause-out c =
    let short : length c.args.out.now < length (header_line c.args.index c.args.rules.now c.args.hits) = omega (arith, longer c.args.index c.args.rules.now c.args.hits) in
    rw (lt-ltb _ _ short) refl
