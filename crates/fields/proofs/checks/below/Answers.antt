use Rattle.std.proofs.Common.{sym, ◌∙◌, arith, pow_mono}
use Rattle.std.proofs.lemmas.Bool.{le-leb, lt-ltb}
use Rattle.fields.proofs.checks.below.Goals as goal

pub returns-then-place-ge32 : goal.returns-then-place-ge32
returns-then-place-ge32 c =
    let p = pow_mono {i = 32} {j = c.args.place} c.if-place-ge32.true in
    le-leb 32 c.args.place (omega arith) ∙ sym (lt-ltb _ _ (omega arith))
