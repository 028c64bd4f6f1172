use Rattle.std.proofs.Common.{◌≡◌, Bool, false, ◌∷◌, List, ap, ◌∙◌, ◌||◌, rules, tests}
use Rattle.std.proofs.lemmas.Iterator.{YieldsList-from_slice}
use Rattle.std.proofs.lemmas.Iterator.Search.{any_from_yields_List}
use Rattle.fields.specs.Lists.{any}
use Rattle.fields.specs.Nest.{Nest}
use Rattle.levels.specs.Levels.{same}
use Rattle.levels.proofs.nesting.marked.Goals as goal

-- where the whole pattern w is not q, one of the others has to be
others : {P V : Type 0} (n : Nest P V) (w q : P) (ps : List P) {r : Bool} → w ≡ n.whole → false ≡ same n.within w q → r ≡ any (λ p. same n.within p q) ps → r ≡ any (λ p. same n.within p q) (n.whole ∷ ps)
others n w q ps e h a = a ∙ ap (λ b. b || any (λ p. same n.within p q) ps) (h ∙ ap (λ p. same n.within p q) e)

pub returns-else-alike-clause-found : goal.returns-else-alike-clause-found
returns-else-alike-clause-found g c =
    let ps = c.args.patterns.now in
    others g.K.FieldKind.nest _ _ ps c.whole.ensures c.if-alike.ensures.one (any_from_yields_List _ _ _ _ c.any.ensures.ran (YieldsList-from_slice ps cc) (λ x b f k. search (rules, tests)))
