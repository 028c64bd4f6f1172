use Rattle.std.proofs.Common.{◌≡◌, ℕ, ◌%◌, ◌^◌, eqb, sym, ap, mod-eq_of_lt, arith, pow_mono}
use Rattle.fields.proofs.checks.clean.Goals as goal

pub returns-else-place-lt32 : goal.returns-else-place-lt32
returns-else-place-lt32 c =
    let p = pow_mono {i = 32} {j = c.args.place} c.if-place-lt32.false in
    let m : c.args.number % 2 ^ c.args.place ≡ c.args.number = mod-eq_of_lt (omega arith) in
    ap (λ (n : ℕ). eqb n 0) (sym m)
