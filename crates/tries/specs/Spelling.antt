-- Patterns that are the first bits of values.
use Rattle.std.specs.Prelude.{◌≡◌, ℕ, ◌-◌, ◌<◌, ◌≤◌, Bool, true, List, length, take}
use Rattle.fields.specs.Nest.{Nest}
use Rattle.tries.specs.Digits.{digits}
use Rattle.tries.specs.declared.path.BitPath.{BitPath}

-- the bits of a path
unfoldable pub bits : BitPath → List Bool
bits p = take p.length (digits p.width p.number)

-- q is p without its last bit
pub record Shorter (p q : BitPath) : Type 0 where
  pub some : 0 < p.length
  pub number : q.number ≡ p.number
  pub width : q.width ≡ p.width
  pub length : q.length ≡ p.length - 1

-- xs are the first bits of ys
pub record Front (xs ys : List Bool) : Type 0 where
  pub short : length xs ≤ length ys
  pub first : xs ≡ take (length xs) ys

pub record Spelling (P V : Type 0) : Type 0 where
  -- what the patterns mean
  pub nest : Nest P V
  -- how many bits a value has
  pub width : ℕ
  -- the bits that a pattern fixes, and those of a value
  pub path : P → List Bool
  pub spell : V → List Bool
  -- the laws
  pub narrow : width ≤ 32
  pub full : (v : V) → length (spell v) ≡ width
  pub short : (p : P) → length (path p) ≤ width
  pub one : (p q : P) → path p ≡ path q → p ≡ q
  pub hit : (p : P) (v : V) → nest.matches p v ≡ true → path p ≡ take (length (path p)) (spell v)
  pub hits : (p : P) (v : V) → path p ≡ take (length (path p)) (spell v) → nest.matches p v ≡ true
  pub covered : (p q : P) → nest.within p q ≡ true → path q ≡ take (length (path q)) (path p)
  pub covers : (p q : P) → path q ≡ take (length (path q)) (path p) → nest.within p q ≡ true
