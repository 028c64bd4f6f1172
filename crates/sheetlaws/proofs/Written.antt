-- The sheet of rules is read as these rules.
use Rattle.std.proofs.Common.{◌≡◌, ℕ, ◌+◌, ◌-◌, ◌*◌, ◌/◌, ◌%◌, ◌^◌, ◌<◌, ◌≤◌, true, not, ◌||◌, eqb, leb, List, [], ◌∷◌, ◌++◌, map, length, get_or, drop, is_some, None, sym, refl, ap, ◌∙◌, subst, ap₂, inl, inr, arith}
use mathlib.Core.Path.{fun_ext}
use Rattle.std.specs.List.{range_with_len, flat_map}
use Rattle.std.proofs.lemmas.List.{length-append, length-drop, get_or_at}
use Rattle.std.proofs.lemmas.Bool.{cond-true, cond-false, or_from, or_right, not_from_true, eq-eqb, ne_eqb, le-leb, cases_lt}
use Rattle.sheets.specs.Rows.{row_refusal, rows_refusal}
use Rattle.sheets.specs.Words.{word_bytes}
use Rattle.sheets.specs.Format.{Sheet, rule_words, sheet_words}
use Rattle.sheets.specs.Reading.{accepted, at, least, word_refusal, last, stop, rule_at, rules, verdict, words_read, sheet_read}
use Rattle.sheets.specs.declared.row.RuleRow.{RuleRow}
use Rattle.sheets.proofs.Rows.{row_is, neither, few}
use Rattle.sheetlaws.specs.Laws.{WrittenIsRead}
use Rattle.sheets.proofs.Stops.{Passes, stop_is}
use Rattle.sheetlaws.proofs.Bytes.{at_drop, on_drop, length_joined, length_bytes, words_of_bytes}
use Rattle.sheetlaws.proofs.Fine.{ends_to}
use Rattle.sheetlaws.proofs.Rules.{Eight, row_of, eight_in_order, row_shown}
use Rattle.sheetlaws.proofs.Places.{due, last_is, window, eight_to, rule_is, least_next}

module _ (P : ℕ → Type 0) where
  -- eight more places
  eight_more : (k : ℕ) → ((i : ℕ) → i < 8 * k → P i) → ((j : ℕ) → j < 8 → P (8 * k + j)) → (i : ℕ) → i < 8 * (k + 1) → P i
  eight_more k b h i l = elim (cases_lt i (8 * k)) [
    | inl m ↦ b i m
    | inr m ↦ let e : 8 * k + (i - 8 * k) ≡ i = omega arith in subst P e (h (i - 8 * k) (omega arith))
  ]

module _ (ws : List ℕ) (end : ℕ) where
  -- the words from rule k on are those of the rules rs
  abbrev Gone : List RuleRow → ℕ → Type 0
  Gone rs k = ((i : ℕ) → i < 8 * (k + length rs) → Passes ws i) × (map (λ j. rule_at ws (8 * j)) (range_with_len k (length rs)) ≡ rs)

  gone : (rs : List RuleRow) (k : ℕ) → drop (8 * k) ws ≡ flat_map rule_words rs ++ end ∷ [] → rows_refusal (least ws (8 * k)) rs ≡ None → ((i : ℕ) → i < 8 * k → Passes ws i) → Gone rs k
  gone [] k e o b = ((λ i l. b i (omega arith)), refl)
  gone (r ∷ rs) k e o b =
      let t = neither (row_refusal (least ws (8 * k)) r) _ o in
      let more = flat_map rule_words rs ++ end ∷ [] in
      let f = (row_is (least ws (8 * k)) r).0 t.0 in
      let w : window ws k ≡ (λ j. get_or (rule_words r ++ more) j 0) = fun_ext (at_drop ws (8 * k) (rule_words r ++ more) e) in
      let row : row_of (window ws k) ≡ r = ap row_of w ∙ row_shown _ r f more in
      let m : least ws (8 * (k + 1)) ≡ r.number + 1 = least_next ws k ∙ ap (λ q. q.number + 1) row in
      let l : length (rule_words r ++ more) ≡ length ws - 8 * k = ap length (sym e) ∙ length-drop (8 * k) ws in
      let p = eight_to ws k (subst (Eight (least ws (8 * k))) (sym w) (eight_in_order _ r f more)) (omega arith) in
      let g = gone rs (k + 1) (on_drop ws (8 * k) (rule_words r ++ more) e 8 (8 * (k + 1)) (omega arith)) (ap (λ n. rows_refusal n rs) m ∙ t.1) (eight_more (Passes ws) k b p) in
      ((λ i h. g.0 i (omega arith)), ap₂ ◌∷◌ (rule_is ws k ∙ row) g.1)

module _ (rs : List RuleRow) (o : rows_refusal 0 rs ≡ None) where
  abbrev count : ℕ
  count = length rs

  long : length (flat_map rule_words rs) ≡ 8 * count
  long = length_joined rule_words 8 (λ r. refl) rs

  length_words : length (sheet_words rs) ≡ 8 * count + 1
  length_words = omega (arith, length-append (flat_map rule_words rs) ((6 * 2 ^ 29 + count) ∷ []), long)

  all_gone : Gone (sheet_words rs) (6 * 2 ^ 29 + count) rs 0
  all_gone = gone (sheet_words rs) (6 * 2 ^ 29 + count) rs 0 refl o (λ i l. absurd (omega arith))

  ended : (word_refusal (sheet_words rs) (8 * count) ≡ None) × (last (sheet_words rs) (8 * count) ≡ true)
  ended =
      let z : (8 * count) % 8 ≡ 0 = omega arith in
      let n : 8 * count / 8 ≡ count = omega arith in
      let e : at (sheet_words rs) (8 * count) ≡ 6 * 2 ^ 29 + 8 * count / 8 =
      get_or_at (flat_map rule_words rs) (6 * 2 ^ 29 + count) [] 0 (8 * count) long ∙ ap (λ m. 6 * 2 ^ 29 + m) (sym n) in
      let t = ends_to (sheet_words rs) (8 * count) e (omega (arith, few 0 rs (omega arith) o)) in
      (due (sheet_words rs) (8 * count) z (omega (arith, length_words)) ∙ t.0, last_is (sheet_words rs) (8 * count) z ∙ t.1)

  stops : stop (sheet_words rs) 0 (length (sheet_words rs)) ≡ 8 * count
  stops = stop_is (sheet_words rs) (8 * count) (record {
    there = or_right (is_some (word_refusal (sheet_words rs) (8 * count))) _ ended.1;
    before = λ i l. all_gone.0 i (omega arith);
  })

  words_are_read : (places : ℕ) → count ≤ places → words_read (sheet_words rs) places ≡ accepted rs
  words_are_read places l =
      let n : 8 * count / 8 ≡ count = omega arith in
      ap (λ i. verdict (sheet_words rs) places i (word_refusal (sheet_words rs) i)) stops ∙
      (ap (verdict (sheet_words rs) places (8 * count)) ended.0 ∙
      (cond-true (eqb (8 * count + 1) (length (sheet_words rs))) _ _ (eq-eqb _ _ (sym length_words)) ∙
      (cond-true (leb (8 * count / 8) places) _ _ (le-leb _ _ (omega arith)) ∙
      ap accepted (ap (rules (sheet_words rs)) n ∙ all_gone.1))))

pub written_is_read_lem : WrittenIsRead
written_is_read_lem bytes rs places s l =
    let ws = sheet_words rs in
    let n = length_words rs s.ordered in
    let b = length_bytes ws in
    ap (λ bs. sheet_read bs places) s.written ∙
    (cond-false (eqb (length (flat_map word_bytes ws)) 0 || not (eqb (length (flat_map word_bytes ws) % 4) 0)) _ _
    (or_from (eqb (length (flat_map word_bytes ws)) 0) _ (ne_eqb _ _ (λ e. omega arith)) (not_from_true _ (eq-eqb _ _ (omega arith)))) ∙
    (ap (λ v. words_read v places) (words_of_bytes ws) ∙ words_are_read rs s.ordered places l))

-- bytes are the sheet of one list of rules
pub one_list : (bytes : List ℕ) (rs qs : List RuleRow) → Sheet bytes rs → Sheet bytes qs → rs ≡ qs
one_list bytes rs qs s t =
    let p = written_is_read_lem bytes rs (length rs + length qs) s (omega arith) in
    let q = written_is_read_lem bytes qs (length rs + length qs) t (omega arith) in
    cc
