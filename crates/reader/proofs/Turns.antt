-- The turns of the sheet reader: a rule each.
use Rattle.std.proofs.Common.{◌≡◌, ℕ, ◌+◌, ◌-◌, ◌*◌, ◌<◌, ◌≤◌, true, false, cond, eqb, leb, List, [], ◌∷◌, ◌++◌, length, Some, None, sym, refl, ap, ◌∙◌, subst, ap₂, arith}
use Rattle.std.proofs.lemmas.List.{length_push}
use Rattle.std.proofs.lemmas.List.FromFn.{map-range_with_len_more}
use Rattle.std.proofs.lemmas.Bool.{eq-eqb, ne_eqb, cond-true, cond-false}
use Rattle.fields.specs.declared.refusal.Refusal.TheVariants.{SheetEnd}
use Rattle.sheets.specs.Faults.{fault_at}
use Rattle.sheets.specs.Words.{rest}
use Rattle.sheets.specs.Reading.{accepted, fault, words_read, at, least, ends, parts, rule_at, rules}
use Rattle.sheets.specs.declared.row.RuleRow.{RuleRow}
use Rattle.sheets.specs.declared.fault.Fault.{Fault}
use Rattle.reader.specs.Readers.{Refused, Passes, Fails, opening_due, opened, ComesTo, faulty, holding, Broken}
use Rattle.reader.proofs.Bytes.{length_words_of}
use Rattle.reader.proofs.Stops.{Clear, clear_none, clear_rule, stops_opening, stops_rule, ended, opening_word, opening_last}

-- the rows are the rules before this place, and the next rule has the number l or above
pub record Reached (ws : List ℕ) (l : ℕ) (rows : List RuleRow) : Type 0 where
  pub clear : Clear ws (8 * length rows)
  pub least_is : l ≡ least ws (8 * length rows)
  pub below : length rows ≤ l
  pub most : l ≤ 256
  pub held : rows ≡ rules ws (length rows)

module _ (ws : List ℕ) where
  pub rule_number : (k i : ℕ) → Some k ≡ opened ws i → k ≡ rest (at ws i)
  unfolding opened
  rule_number k i b = grind arith

  rule_goes_on : (k i : ℕ) → Some k ≡ opened ws i → ends ws i ≡ false
  unfolding opened
  rule_goes_on k i b = grind arith

  pub reached_none : (rows : List RuleRow) → rows ≡ [] → Reached ws 0 rows
  reached_none rows e = rw e record { clear = clear_none ws; least_is = refl; below = omega arith; most = omega arith; held = refl }

  least_more : (n : ℕ) → least ws (8 * (n + 1)) ≡ rest (at ws (8 * n)) + 1
  least_more n =
      let e : 8 * (n + 1) - 8 ≡ 8 * n = omega arith in
      cond-false _ _ _ (ne_eqb (8 * (n + 1)) 0 (λ z. omega arith)) ∙ ap (λ (i : ℕ). rest (at ws i) + 1) e

  -- ---- a turn, after the rules of the rows
  module _ (l : ℕ) (rows : List RuleRow) (r : Reached ws l rows) (n : ℕ) (e : n ≡ length rows) where
    clear : Clear ws (8 * n)
    clear = let P : ℕ → Type 0 = λ m. Clear ws (8 * m) in subst P (sym e) r.clear

    pub broken_opening : (f : Fault) → Refused (opening_due ws (8 * n)) (8 * n) f → Broken ws f
    broken_opening f h = stops_opening ws n f clear h

    module _ (k : ℕ) (a : opening_due ws (8 * n) ≡ None) (b : Some k ≡ opened ws (8 * n)) where
      pub broken_rule : (f : Fault) → Fails ws parts (8 * n + 1) f → Broken ws f
      broken_rule f h = stops_rule ws n f clear a (rule_goes_on k (8 * n) b) h

      pub reached_more : l ≤ k → k ≤ 255 → (row : RuleRow) (more : List RuleRow) → more ≡ rows ++ row ∷ [] → Passes ws parts (8 * n + 1) → row ≡ rule_at ws (8 * n) → Reached ws (k + 1) more
      reached_more x y row more t h d =
          let s = length_push rows row in
          let z : length (rows ++ row ∷ []) ≡ n + 1 = omega arith in
          rw t record {
            clear = rw z (clear_rule ws n clear a (rule_goes_on k (8 * n) b) h);
            least_is = rw z (ap (λ (m : ℕ). m + 1) (rule_number k (8 * n) b) ∙ sym (least_more n));
            below = omega arith;
            most = omega arith;
            held = rw z (ap (λ (x : List RuleRow). x ++ row ∷ []) (r.held ∙ ap (rules ws) (sym e))
                ∙ (ap (λ (x : RuleRow). rules ws n ++ x ∷ []) d ∙ sym (map-range_with_len_more (λ k. rule_at ws (8 * k)) 0 n n (omega arith))));
          }

    -- the end
    module _ (a : opening_due ws (8 * n) ≡ None) (b : None ≡ opened ws (8 * n)) where
      ends_here : ends ws (8 * n) ≡ true
      unfolding opened
      ends_here = grind arith

      comes_to_end : (places : ℕ) → words_read ws places ≡ cond (eqb (8 * n + 1) (length ws)) (holding rows places) (fault 15 (8 * n + 1))
      comes_to_end places =
          ended ws n places clear (opening_word ws n ∙ a) (opening_last ws n ∙ ends_here)
          ∙ ap₂ (λ (m : ℕ) (rs : List RuleRow). cond (eqb (8 * n + 1) (length ws)) (cond (leb m places) (accepted rs) (fault 9 0)) (fault 15 (8 * n + 1))) e (ap (rules ws) e ∙ sym r.held)

      end_present : 8 * n < length ws
      unfolding opening_due
      end_present = grind arith

      pub found_all : length ws ≤ 8 * n + 1 → ComesTo ws (holding rows)
      unfolding ComesTo
      found_all h places = comes_to_end places ∙ cond-true _ _ _ (eq-eqb (8 * n + 1) (length ws) (omega (arith, end_present)))

      pub found_more : (f : Fault) → 8 * n + 1 < length ws → f ≡ fault_at SheetEnd (8 * n + 1) → Broken ws f
      unfolding ComesTo
      found_more f h g places = comes_to_end places ∙ (cond-false _ _ _ (ne_eqb (8 * n + 1) (length ws) (λ z. omega arith)) ∙ ap faulty (sym g))

-- what a turn comes to
pub ruleset turns = (length_words_of, reached_none, rule_number, broken_opening, broken_rule, found_all, found_more)
