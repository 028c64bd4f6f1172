-- The test of keys decides their equality, and so do their numbers.
use mathlib.Core.Bool.{and_assoc}
use Rattle.std.proofs.Common.{◌≡◌, true, arith}
use Rattle.std.proofs.lemmas.Bool.Decides.{nat_tests}
use Rattle.keytables.specs.Keys.{numbers_of, same_key}
use Rattle.keytables.specs.declared.key.Key.{Key}
use Rattle.keytables.specs.contracts.key.KeyPartialEq.TheImpl.{ghosts as derived}

-- the derived test is it
pub derived_same : (a b : Key) → derived.eq a b ≡ same_key a b
derived_same a b = simp and_assoc

pub from_same : (a b : Key) → same_key a b ≡ true → a ≡ b
from_same a b h = grind (arith, nat_tests)

pub to_same : (a b : Key) → a ≡ b → same_key a b ≡ true
to_same a b e = grind (arith, nat_tests)

pub same_flip : (a b : Key) → same_key a b ≡ same_key b a
same_flip a b = grind (arith, nat_tests)

pub numbers_one : (a b : Key) → numbers_of a ≡ numbers_of b → a ≡ b
unfolding numbers_of
numbers_one a b e = grind arith
