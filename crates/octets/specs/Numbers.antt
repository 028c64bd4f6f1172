-- Numbers in bytes, the highest byte first.
use Rattle.std.specs.Prelude.{ℕ, ◌+◌, ◌*◌, List, slice_index}

abbrev pub byte : List ℕ → ℕ → ℕ
byte bs i = slice_index bs i

-- the two or four bytes from place i on
abbrev pub two : List ℕ → ℕ → ℕ
two bs i = byte bs i * 256 + byte bs (i + 1)

abbrev pub four : List ℕ → ℕ → ℕ
four bs i = two bs i * 65536 + two bs (i + 2)
