use Rattle.std.proofs.Common.{◌-◌, ◌≤◌, sym, arith, pow_mono}
use native.Mathlib.Nat.{div-eq_of_lt}
use Rattle.fields.proofs.checks.first_bits.Goals as goal

pub returns-else-rest-lt32 : goal.returns-else-rest-lt32
returns-else-rest-lt32 g c =
    let l : 32 ≤ g.row.W - c.args.length = omega arith in
    let p = pow_mono {i = 32} {j = g.row.W - c.args.length} l in
    sym (div-eq_of_lt (omega arith))
