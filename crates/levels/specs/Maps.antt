-- The length map of a held prefix: which of the prefixes around it are held, by their lengths.
use Rattle.std.specs.Prelude.{◌≡◌, ℕ, ◌-◌, ◌*◌, ◌/◌, ◌%◌, ◌^◌, Bool, cond, ◌&&◌, List, ◌==◌, nat_le}
use Rattle.fields.specs.Lists.{any}
use Rattle.fields.specs.Lengths.{first_bits}
use Rattle.fields.specs.declared.prefix.Prefix.{Prefix}

-- bit n of a number
abbrev pub bit : ℕ → ℕ → ℕ
bit m n = m / 2 ^ n % 2

module _ (w s : ℕ) (held : List (Prefix w s)) (p : Prefix w s) where
  -- the first n bits of p are a held pattern
  abbrev pub front_held : ℕ → Bool
  front_held n = any (λ q. (q.length == n) && q.number == first_bits w n p.number * 2 ^ (w - n)) held

  -- bit n of the map m, from 1 to p's length, is set exactly if the first n bits of p are held; no other bit is set
  abbrev pub Maps : ℕ → Type 0
  Maps m = (n : ℕ) → bit m n ≡ cond (nat_le 1 n && nat_le n p.length && front_held n) 1 0
