use Rattle.std.proofs.Common.{refl, ◌∙◌, arith}
use Rattle.std.proofs.lemmas.Bool.{eq-eqb, ne_eqb}
use Rattle.levels.proofs.Joined.{and_then, and_not}
use Rattle.levels.proofs.Few.{alike_is, told_from}
use Rattle.levels.proofs.nesting.alike.Goals as goal

pub returns-then-lengths : goal.returns-then-lengths
returns-then-lengths g c = record {
  one = and_then _ _ _ (eq-eqb _ _ c.if-lengths.true) refl ∙ alike_is g.K.FieldKind.nest _ _ c.length.ensures c.length-2.ensures c.number.ensures c.number-2.ensures;
  few = (told_from g.K.FieldKind.nest _ c.length.ensures c.number.ensures (omega arith) (omega arith), told_from g.K.FieldKind.nest _ c.length-2.ensures c.number-2.ensures (omega arith) (omega arith));
}

pub returns-else-lengths : goal.returns-else-lengths
returns-else-lengths g c = record {
  one = and_not _ _ (ne_eqb _ _ c.if-lengths.false) ∙ alike_is g.K.FieldKind.nest _ _ c.length.ensures c.length-2.ensures c.number.ensures c.number-2.ensures;
  few = (told_from g.K.FieldKind.nest _ c.length.ensures c.number.ensures (omega arith) (omega arith), told_from g.K.FieldKind.nest _ c.length-2.ensures c.number-2.ensures (omega arith) (omega arith));
}
