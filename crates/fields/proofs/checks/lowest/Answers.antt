use Rattle.std.proofs.Common.{sym, mod-eq_of_lt, arith, pow_mono}
use Rattle.fields.proofs.checks.lowest.Goals as goal

pub returns-else-this-lt32 : goal.returns-else-this-lt32
returns-else-this-lt32 g c =
    let p = pow_mono {i = 32} {j = g.row.W} c.if-this-lt32.false in
    sym (mod-eq_of_lt (omega arith))
