-- The words of a sheet by their places: rule k has the eight from place 8 * k on.
use Rattle.std.proofs.Common.{◌≡◌, ℕ, zero, suc, ◌+◌, ◌-◌, ◌*◌, ◌%◌, ◌<◌, ◌≤◌, eqb, List, length, get_or, None, sym, ap, ◌∙◌, subst, arith}
use Rattle.std.proofs.lemmas.Bool.{cond-false, ne_eqb, and_left}
use Rattle.sheets.specs.Words.{rest}
use Rattle.sheets.specs.Reading.{parts, at, ends, least, opening_refusal, part_refusal, word_refusal, last, rule_at}
use Rattle.sheets.specs.declared.part.Part.TheVariants.{Protocol}
use Rattle.sheets.proofs.Stops.{Passes}
use Rattle.sheetlaws.proofs.Fine.{Opens, Fine, part_is, opens_from, opens_to}
use Rattle.sheetlaws.proofs.Rules.{Eight, pattern_of, address_of, row_of}

module _ (ws : List ℕ) (i : ℕ) where
  pub in_list : word_refusal ws i ≡ None → i < length ws
  in_list h = grind arith

  -- where a rule or the end is due
  module _ (e : i % 8 ≡ 0) where
    pub due : i < length ws → word_refusal ws i ≡ opening_refusal ws i
    due l = grind arith

    pub last_is : last ws i ≡ ends ws i
    last_is = grind arith

module _ (ws : List ℕ) (k : ℕ) where
  abbrev pub window : ℕ → ℕ
  window j = get_or ws (8 * k + j) 0

  part_due : (j : ℕ) → j < 7 → 8 * k + suc j < length ws → word_refusal ws (8 * k + suc j) ≡ part_refusal ws (get_or parts j Protocol) (8 * k + suc j)
  part_due j l m = let e : (8 * k + suc j) % 8 - 1 ≡ j = omega arith in grind arith

  pub eight_from : ((j : ℕ) → j < 8 → Passes ws (8 * k + j)) → Eight (least ws (8 * k)) window
  eight_from h =
      let z : 8 * k + 0 ≡ 8 * k = omega arith in
      let y : (8 * k) % 8 ≡ 0 = omega arith in
      let p = subst (Passes ws) z (h 0 (omega arith)) in
      record {
        opening = subst (λ i. Opens (least ws (8 * k)) (at ws i)) (sym z)
            (opens_from ws (8 * k) (sym (due ws (8 * k) y (in_list ws (8 * k) p.0)) ∙ p.0) (sym (last_is ws (8 * k) y) ∙ p.1));
        others = λ j l.
            let b : 8 * k + suc j - 1 ≡ 8 * k + j = omega arith in
            let q = h (suc j) (omega arith) in
            subst (λ i. Fine (get_or parts j Protocol) (at ws i) (at ws (8 * k + suc j))) b
            ((part_is ws (8 * k + suc j) (get_or parts j Protocol)).0 (sym (part_due j l (in_list ws (8 * k + suc j) q.0)) ∙ q.0));
      }

  pub eight_to : Eight (least ws (8 * k)) window → 8 * k + 8 ≤ length ws → (j : ℕ) → j < 8 → Passes ws (8 * k + j)
  eight_to e l zero m =
      let z : 8 * k + 0 ≡ 8 * k = omega arith in
      let y : (8 * k) % 8 ≡ 0 = omega arith in
      let p = opens_to ws (8 * k) (subst (λ i. Opens (least ws (8 * k)) (at ws i)) z e.opening) in
      subst (Passes ws) (sym z) (due ws (8 * k) y (omega arith) ∙ p.0, last_is ws (8 * k) y ∙ p.1)
  eight_to e l (suc j) m =
      let b : 8 * k + j ≡ 8 * k + suc j - 1 = omega arith in
      let n : j < 7 = omega arith in (
        part_due j n (omega arith) ∙ (part_is ws (8 * k + suc j) (get_or parts j Protocol)).1 (subst (λ i. Fine (get_or parts j Protocol) (at ws i) (at ws (8 * k + suc j))) b (e.others j n)),
        and_left (eqb ((8 * k + suc j) % 8) 0) (ends ws (8 * k + suc j)) (ne_eqb _ _ (λ z. omega arith)),
      )

  pub rule_is : rule_at ws (8 * k) ≡ row_of window
  rule_is =
      let a : 8 * k ≡ 8 * k + 0 = omega arith in
      let b : 8 * k + 1 + 1 ≡ 8 * k + 2 = omega arith in
      let c : 8 * k + 3 + 1 ≡ 8 * k + 4 = omega arith in
      λ t. record {
        number = rest (at ws (a t));
        addresses = record { source = address_of (window 1) (at ws (b t)); destination = address_of (window 3) (at ws (c t)) };
        ports = record { source = pattern_of (window 5); destination = pattern_of (window 6) };
        protocol = pattern_of (window 7);
      }

  pub least_next : least ws (8 * (k + 1)) ≡ rest (window 0) + 1
  least_next =
      let e : 8 * (k + 1) - 8 ≡ 8 * k + 0 = omega arith in
      cond-false (eqb (8 * (k + 1)) 0) _ _ (ne_eqb _ _ (λ z. omega arith)) ∙ ap (λ i. rest (at ws i) + 1) e
