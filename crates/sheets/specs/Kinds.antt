-- The kinds of words by their numbers.
use Rattle.std.specs.Prelude.{ℕ}
use Rattle.sheets.specs.declared.word.WordKind.{WordKind}
use Rattle.sheets.specs.declared.word.WordKind.TheVariants.{Rule, Upper, Lower, Port, Protocol, End}

abbrev pub number_of : WordKind → ℕ
number_of Rule = 1
number_of Upper = 2
number_of Lower = 3
number_of Port = 4
number_of Protocol = 5
number_of End = 6
