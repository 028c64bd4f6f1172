use Rattle.std.proofs.Common.{◌≡◌, ℕ, refl, arith, rules, tests}
use Rattle.std.proofs.lemmas.Iterator.{IsFirst-from_position, YieldsList-from_slice}
use Rattle.rulesets.proofs.Places.{members_empty, members_popped}
use Rattle.rulesets.proofs.ruleset.RuleSet.pop_first.Goals as goal

pub returns-in_err-i-clause-none : goal.returns-in_err-i-clause-none
returns-in_err-i-clause-none c e =
    let s = c.args.self.now in
    let none = IsFirst-from_position _ _ _ (λ (w : ℕ). w ≡ 0 → ⊥) (λ (w : ℕ). w ≡ 0) c.in_err-i.ensures.ran (YieldsList-from_slice s.words cc) (λ x q k. search (rules, tests)) (λ x q k. search (rules, tests)) in
    members_empty s (λ k l. none k 0 (omega arith) (omega (arith, s.sized)))

pub returns-clause-taken : goal.returns-clause-taken
returns-clause-taken c =
    let s = c.args.self.now in
    let first = IsFirst-from_position _ _ _ (λ (w : ℕ). w ≡ 0 → ⊥) (λ (w : ℕ). w ≡ 0) c.in_ok-i.ensures.ran (YieldsList-from_slice s.words cc) (λ x q k. search (rules, tests)) (λ x q k. search (rules, tests)) in
    members_popped s _ c.in_ok-i.i (omega (arith, s.sized)) (λ k l. first.2 k 0 (omega arith) l) (first.1 0) (omega arith) refl
