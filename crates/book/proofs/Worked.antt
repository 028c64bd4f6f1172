-- The worked examples, by computing, one part after another.
use Rattle.std.proofs.Common.{◌≡◌, [], ◌∷◌, refl}
use Rattle.fields.specs.Prefixes.{matches, within, make}
use Rattle.fields.specs.PrefixLaws.{whole}
use Rattle.book.specs.Worked.{Worked, computed, expected, shown, four}

tuples : computed.tuples ≡ expected.tuples
unfolding matches within make whole
tuples = refl

additions : computed.additions ≡ expected.additions
unfolding matches within make whole
additions = refl

four_subsets : shown 4 1 four ≡ record { rules = (1 ∷ []) ∷ (2 ∷ []) ∷ (3 ∷ []) ∷ (4 ∷ []) ∷ []; counts = 1 ∷ 1 ∷ 1 ∷ 1 ∷ []; pseudos = 0 ∷ 0 ∷ 0 ∷ 0 ∷ []; shelved = [] }
unfolding matches within make whole
four_subsets = refl

two_subsets : shown 2 64 four ≡ record { rules = (1 ∷ 3 ∷ 4 ∷ []) ∷ (2 ∷ []) ∷ []; counts = 12 ∷ 1 ∷ []; pseudos = 9 ∷ 0 ∷ []; shelved = [] }
unfolding matches within make whole
two_subsets = refl

growth_12 : shown 1 12 four ≡ record { rules = (1 ∷ 2 ∷ 3 ∷ 4 ∷ []) ∷ []; counts = 24 ∷ []; pseudos = 20 ∷ []; shelved = [] }
unfolding matches within make whole
growth_12 = refl

growth_11 : shown 1 11 four ≡ record { rules = (1 ∷ 2 ∷ 4 ∷ []) ∷ []; counts = 6 ∷ []; pseudos = 3 ∷ []; shelved = 3 ∷ [] }
unfolding matches within make whole
growth_11 = refl

growth_2 : shown 1 2 four ≡ record { rules = (1 ∷ 4 ∷ []) ∷ []; counts = 2 ∷ []; pseudos = 0 ∷ []; shelved = 2 ∷ 3 ∷ [] }
unfolding matches within make whole
growth_2 = refl

pub worked : Worked
worked = λ j. record {
  tuples = tuples j;
  groupings = four_subsets j ∷ two_subsets j ∷ growth_12 j ∷ growth_11 j ∷ growth_2 j ∷ [];
  additions = additions j;
}
