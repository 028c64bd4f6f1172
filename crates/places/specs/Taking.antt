-- Patterns taken by a finder that has room for one more.
use Rattle.std.specs.Prelude.{ℕ, cond, List, [], ◌∷◌, ◌++◌, length, is_some}
use Rattle.std.specs.Option.{unwrap_or}
use Rattle.fields.specs.Nest.{Nest}
use Rattle.finders.specs.Finding.{known}

module _ {P V : Type 0} (N : Nest P V) (held : List P) (p : P) where
  -- the label of the pattern p, which is the next one if it is new
  abbrev pub label_of : ℕ
  label_of = unwrap_or (known N held p) (length held)

  -- what is held then
  abbrev pub with_pattern : List P
  with_pattern = cond (is_some (known N held p)) held (held ++ (p ∷ []))
