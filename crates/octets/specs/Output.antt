-- Bytes that are written into an output.
use Rattle.std.specs.Prelude.{ℕ, ◌+◌, List, ◌++◌, length, take, drop}

-- the output after these bytes were written from a place on
unfoldable pub put_at : ℕ → List ℕ → List ℕ → List ℕ
put_at place bytes out = take place out ++ (bytes ++ drop (place + length bytes) out)
