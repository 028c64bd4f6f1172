-- What the words of a filter say.
use Rattle.std.specs.Prelude.{◌≡◌, ℕ, ◌/◌, ◌%◌, ◌^◌, Bool, ◌||◌, List, ◌==◌, bit_or, nat_eq, slice_index, slice_set}
use Rattle.fields.specs.Lists.{any, all}
use Rattle.keytables.specs.declared.key.Key.{Key}
use Rattle.screens.specs.Places.{places_of}

-- bit k of a word is set
unfoldable pub bit_of : ℕ → ℕ → Bool
bit_of word k = word / 2 ^ k % 2 == 1

-- bit j of words of 64 bits: bit j % 64 of word j / 64
unfoldable pub bit_at : List ℕ → ℕ → Bool
bit_at words j = bit_of (slice_index words (j / 64)) (j % 64)

-- the words with bit j set
abbrev pub marked : List ℕ → ℕ → List ℕ
marked words j = slice_set words (j / 64) (bit_or (slice_index words (j / 64)) (2 ^ (j % 64)))

-- all four bits of a key are set
abbrev pub has_key : List ℕ → Key → Bool
has_key words k = all (bit_at words) (places_of k)

-- j is one of the four places of a key
abbrev pub is_place : Key → ℕ → Bool
is_place k j = any (nat_eq j) (places_of k)

-- after k was added: its four bits are set, and every other bit is as before
abbrev pub Added : List ℕ → Key → List ℕ → Type 0
Added before k after = (j : ℕ) → bit_at after j ≡ (bit_at before j || is_place k j)
