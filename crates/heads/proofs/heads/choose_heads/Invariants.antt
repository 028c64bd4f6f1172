use Rattle.std.proofs.Common.{◌≡◌, map, vec_items, vec_len, vec_capacity}
use Rattle.heads.specs.Counts.{levels_of}
use Rattle.heads.proofs.Picks.{Choosing}
use Rattle.heads.proofs.Tallies.{levels_at}
use Rattle.heads.proofs.heads.choose_heads.Given as goal

abbrev pub invariant-loop : goal.invariant-loop
invariant-loop l =
    Choosing levels_at (λ c. c.rules) l.g (vec_items l.initial.counted) (vec_items l.counted) (map levels_of (vec_items l.heads)) l.counter
    × (vec_len l.heads ≡ l.counter)
    × (vec_capacity l.heads ≡ vec_capacity l.initial.heads)
    × (vec_capacity l.counted ≡ vec_capacity l.initial.counted)
