-- Where a key's bits stand in a filter: at four of 32,768 places, which every number of the key moves.
use Rattle.std.specs.Prelude.{ℕ, ◌*◌, ◌/◌, ◌%◌, ◌^◌, List, [], ◌∷◌, fold, bit_xor}
use Rattle.keytables.specs.Keys.{numbers_of}
use Rattle.keytables.specs.declared.key.Key.{Key}

-- the upper half of a word of 64 bits laid over the lower one
unfoldable pub overlaid : ℕ → ℕ
overlaid w = bit_xor w (w / 2 ^ 32)

-- the bits of a word carried into those above them
unfoldable pub stirred : ℕ → ℕ
stirred w = (overlaid w * 0xd6e8_feb8_6659_fd93) % 2 ^ 64

-- one more number taken into a word
unfoldable pub taken_in : ℕ → ℕ → ℕ
taken_in w n = stirred (bit_xor w n)

-- the six numbers of a key in one word, which does not begin as 0, so that a key of zeros has four places too
unfoldable pub mixed : Key → ℕ
mixed k = overlaid (stirred (fold taken_in 0x9e37_79b9_7f4a_7c15 (numbers_of k)))

-- part i of a word, of 15 bits
unfoldable pub part : ℕ → ℕ → ℕ
part w i = w / 2 ^ (16 * i) % 2 ^ 15

-- the four places of a key
abbrev pub places_of : Key → List ℕ
places_of k = part (mixed k) 0 ∷ part (mixed k) 1 ∷ part (mixed k) 2 ∷ part (mixed k) 3 ∷ []
