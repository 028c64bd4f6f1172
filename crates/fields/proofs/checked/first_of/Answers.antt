use Rattle.std.proofs.Common.{sym, ◌∙◌, rules, tests}
use Rattle.std.proofs.lemmas.Bool.{cond-true, cond-false}
use Rattle.std.proofs.lemmas.Iterator.{YieldsList-from_slice}
use Rattle.std.proofs.lemmas.Iterator.Search.{any_from_yields_List}
use Rattle.fields.specs.Checked.{is}
use Rattle.fields.specs.Places.{listed}
use Rattle.fields.specs.Refusals.{refusal}
use Rattle.fields.proofs.checked.first_of.Goals as goal

pub returns-then-any : goal.returns-then-any
returns-then-any c =
    sym (cond-true _ _ _ (sym (any_from_yields_List (λ o. is (refusal o) 2) _ _ _ c.if-any.ensures.ran (YieldsList-from_slice (listed c.args.checks) cc) (λ x b f k. search (rules, tests)))))

pub returns-then-any-2 : goal.returns-then-any-2
returns-then-any-2 c =
    sym (cond-false _ _ _ (sym (any_from_yields_List (λ o. is (refusal o) 2) _ _ _ c.if-any.ensures.ran (YieldsList-from_slice (listed c.args.checks) cc) (λ x b f k. search (rules, tests))))
    ∙ cond-true _ _ _ (sym (any_from_yields_List (λ o. is (refusal o) 3) _ _ _ c.if-any-2.ensures.ran (YieldsList-from_slice (listed c.args.checks) cc) (λ x b f k. search (rules, tests)))))

pub returns : goal.returns
returns c =
    sym (cond-false _ _ _ (sym (any_from_yields_List (λ o. is (refusal o) 2) _ _ _ c.if-any.ensures.ran (YieldsList-from_slice (listed c.args.checks) cc) (λ x b f k. search (rules, tests))))
    ∙ cond-false _ _ _ (sym (any_from_yields_List (λ o. is (refusal o) 3) _ _ _ c.if-any-2.ensures.ran (YieldsList-from_slice (listed c.args.checks) cc) (λ x b f k. search (rules, tests)))))
