-- A test of two parts, whose second is tried only where the first holds.
use Rattle.std.proofs.Common.{◌≡◌, Bool, true, false, ◌&&◌, sym, ap, ◌∙◌}

pub and_then : (x y z : Bool) → x ≡ true → y ≡ z → y ≡ (x && z)
and_then x y z h e = e ∙ ap (λ (b : Bool). b && z) (sym h)

pub and_not : (x z : Bool) → x ≡ false → x ≡ (x && z)
and_not x z h = h ∙ ap (λ (b : Bool). b && z) (sym h)
