use Rattle.std.proofs.Common.{arith}
use Rattle.std.proofs.lemmas.Grind.{common_steps}
use Rattle.sheets.specs.declared.word.WordKind.TheVariants.{Rule, End}
use Rattle.reader.specs.Readers.{Refused, opening_due, opened}
use Rattle.reader.proofs.words.WordsFrom.opening.Goals as goal

-- no number is the word's, so neither of these two
pub returns-in_default-clause-read : goal.returns-in_default-clause-read
unfolding Refused opening_due opened
returns-in_default-clause-read c =
    let r = c.in_default.ensures Rule in
    let e = c.in_default.ensures End in
    grind (arith, common_steps)
