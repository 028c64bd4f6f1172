-- The words of a sheet. Bit 0 is the lowest; the kind is in bits 31-29.
use Rattle.std.specs.Prelude.{ℕ, ◌+◌, ◌*◌, ◌/◌, ◌%◌, ◌^◌, List, [], ◌∷◌, slice_index}
use Rattle.sheets.specs.declared.part.Side.{Side}
use Rattle.sheets.specs.declared.part.Side.TheVariants.{Source, Destination}
use Rattle.sheets.specs.declared.part.Part.{Part}
use Rattle.sheets.specs.declared.part.Part.TheVariants.{Upper, Lower, Port, Protocol}

-- ---- what a word says
abbrev pub kind : ℕ → ℕ
kind w = w / 2 ^ 29

-- bits 28-0: the number of a rule, or the count of rules
abbrev pub rest : ℕ → ℕ
rest w = w % 2 ^ 29

-- bit 28
abbrev pub side : ℕ → ℕ
side w = w / 2 ^ 28 % 2

-- bits 27-22
abbrev pub size : ℕ → ℕ
size w = w / 2 ^ 22 % 64

-- bits 21-0, of which a part of a rule uses the lowest 16 or 8
abbrev pub low : ℕ → ℕ
low w = w % 2 ^ 22

-- ---- what a part of a rule has in its word
abbrev pub side_of : Side → ℕ
side_of Source = 0
side_of Destination = 1

abbrev pub kind_due : Part → ℕ
kind_due (Upper s) = 2
kind_due (Lower s) = 3
kind_due (Port s) = 4
kind_due Protocol = 5

abbrev pub side_due : Part → ℕ
side_due (Upper s) = side_of s
side_due (Lower s) = side_of s
side_due (Port s) = side_of s
side_due Protocol = 0

-- the bits of its number
abbrev pub bits_due : Part → ℕ
bits_due (Upper s) = 16
bits_due (Lower s) = 16
bits_due (Port s) = 16
bits_due Protocol = 8

-- the word of a part with a length and a number
abbrev pub word : Part → ℕ → ℕ → ℕ
word p l n = kind_due p * 2 ^ 29 + side_due p * 2 ^ 28 + l * 2 ^ 22 + n

-- ---- words and bytes, the highest byte first
abbrev pub word_at : List ℕ → ℕ → ℕ
word_at bs i = slice_index bs (4 * i) * 2 ^ 24 + slice_index bs (4 * i + 1) * 2 ^ 16 + slice_index bs (4 * i + 2) * 2 ^ 8 + slice_index bs (4 * i + 3)

abbrev pub word_bytes : ℕ → List ℕ
word_bytes w = w / 2 ^ 24 ∷ w / 2 ^ 16 % 256 ∷ w / 2 ^ 8 % 256 ∷ w % 256 ∷ []
