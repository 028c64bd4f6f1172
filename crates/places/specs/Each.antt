-- One of five things, by place.
use Rattle.std.specs.Prelude.{ℕ, zero, suc}

unfoldable pub each : (F : ℕ → Type 0) → F 0 → F 1 → F 2 → F 3 → ((i : ℕ) → F (suc (suc (suc (suc i))))) → (i : ℕ) → F i
each F a b c d e zero = a
each F a b c d e (suc zero) = b
each F a b c d e (suc (suc zero)) = c
each F a b c d e (suc (suc (suc zero))) = d
each F a b c d e (suc (suc (suc (suc i)))) = e i
