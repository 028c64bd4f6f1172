-- What a pattern tells: its length has 8 bits, and its number 32.
use Rattle.std.specs.Prelude.{◌^◌, Bool, ◌&&◌, nat_lt}
use Rattle.fields.specs.Nest.{Nest}

abbrev pub told : {P V : Type 0} → Nest P V → P → Bool
told n p = nat_lt (n.length p) (2 ^ 8) && nat_lt (n.number p) (2 ^ 32)
