-- Which lengths a kind of prefixes has, and which numbers a length allows.
-- A kind has a width w and a shortest length s: addresses 32 and 1, ports 16 and 1, protocols 8 and 8.
use Rattle.std.specs.Prelude.{ℕ, ◌-◌, ◌/◌, ◌%◌, ◌^◌, Bool, ◌&&◌, ◌||◌, ◌==◌, nat_le, nat_lt}

-- the lengths are 0, for the whole pattern, and those from s to w; none is above the 32 bits of a pattern's number
abbrev pub has : ℕ → ℕ → ℕ → Bool
has w s l = nat_le l w && (nat_le l 32 && (l == 0 || nat_le s l))

-- no bit of the number n is set above the width w, or beyond its first l bits
abbrev pub clean : ℕ → ℕ → ℕ → Bool
clean w l n = nat_lt n (2 ^ w) && n % 2 ^ (w - l) == 0

-- the first l bits of a number of w bits
abbrev pub first_bits : ℕ → ℕ → ℕ → ℕ
first_bits w l n = n / 2 ^ (w - l)
