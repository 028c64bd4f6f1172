use Rattle.std.proofs.Common.{sym, refl}
use Rattle.fields.specs.PrefixLaws.{make_is, make_lacks, make_beyond}
use Rattle.fields.proofs.prefix.Prefix.new.Goals as goal

pub returns-then-not-has_length : goal.returns-then-not-has_length
returns-then-not-has_length g c = sym (make_lacks _ _ _ _ (sym c.if-not-has_length.ensures))

pub returns-then-not-is_clean : goal.returns-then-not-is_clean
returns-then-not-is_clean g c = sym (make_beyond _ _ _ _ (sym c.if-not-has_length.ensures) (sym c.if-not-is_clean.ensures))

pub returns : goal.returns
returns g c = sym (make_is g.row.W g.row.S c.args.length.bits c.args.number _ refl refl)
