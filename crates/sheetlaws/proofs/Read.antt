-- Bytes that are read as rules are the sheet of these rules.
use Rattle.std.proofs.Common.{◌≡◌, ℕ, zero, suc, ◌+◌, ◌*◌, ◌/◌, ◌%◌, ◌^◌, ◌<◌, ◌≤◌, true, false, not, ◌||◌, eqb, List, [], ◌∷◌, ◌++◌, map, length, drop, is_some, None, Option, sym, refl, ap, ◌∙◌, subst, ap₂, arith}
use Rattle.std.specs.List.{range_with_len, flat_map}
use Rattle.std.proofs.lemmas.List.FromFn.{length-map-range_with_len}
use Rattle.std.proofs.lemmas.List.{drop_more, drop_all}
use Rattle.std.proofs.lemmas.Bool.{or_parts, not-false, eqb-true, and_parts}
use Rattle.sheets.specs.Rows.{row_refusal, or_else, rows_refusal}
use Rattle.sheets.specs.Words.{word_bytes}
use Rattle.sheets.specs.Format.{Sheet, rule_words, sheet_words}
use Rattle.sheets.specs.Reading.{accepted, at, least, word_refusal, last, stop, rule_at, rules, verdict, words, words_read}
use Rattle.sheets.specs.declared.row.RuleRow.{RuleRow}
use Rattle.sheets.proofs.Rows.{row_is}
use Rattle.sheetlaws.specs.Laws.{ReadIsWritten}
use Rattle.sheets.proofs.Stops.{Passes, stops_first}
use Rattle.sheetlaws.proofs.Bytes.{split, bytes_of_words}
use Rattle.sheetlaws.proofs.Fine.{ends_from}
use Rattle.sheetlaws.proofs.Rules.{Eight, row_in_order, words_shown}
use Rattle.sheetlaws.proofs.Places.{in_list, due, window, eight_from, rule_is, least_next}
use Rattle.sheetlaws.proofs.Written.{one_list}

-- ---- what was accepted passed each test
module _ (rs : List RuleRow) where
  record Taken (ws : List ℕ) (places i : ℕ) (o : Option ℕ) : Type 0 where
    in_order : o ≡ None
    ended : i + 1 ≡ length ws
    room : i / 8 ≤ places
    said : rules ws (i / 8) ≡ rs

  taken : (ws : List ℕ) (places i : ℕ) (o : Option ℕ) → verdict ws places i o ≡ accepted rs → Taken ws places i o
  taken ws places i o h = grind arith

-- ---- words of which n rules are in order, and then the end
module _ (ws : List ℕ) (n : ℕ) (long : 8 * n + 1 ≡ length ws) (end : at ws (8 * n) ≡ 6 * 2 ^ 29 + n) (before : (i : ℕ) → i < 8 * n → Passes ws i) where
  eight : (k : ℕ) → k < n → Eight (least ws (8 * k)) (window ws k)
  eight k l = eight_from ws k (λ j m. before (8 * k + j) (omega arith))

  -- m rules from rule k on
  abbrev some : ℕ → ℕ → List RuleRow
  some k m = map (λ j. rule_at ws (8 * j)) (range_with_len k m)

  some_words : (m k : ℕ) → k + m ≡ n → drop (8 * k) ws ≡ flat_map rule_words (some k m) ++ (6 * 2 ^ 29 + n) ∷ []
  some_words zero k e =
      let f : 8 * k ≡ 8 * n = omega arith in
      ap (λ i. drop i ws) f ∙ (drop_more ws (8 * n) 0 (omega arith) ∙ ap₂ ◌∷◌ end (drop_all (8 * n + 1) ws (omega arith)))
  some_words (suc m) k e =
      split ws (8 * k) 8 (8 * (k + 1)) (omega arith) (omega arith) ∙
      ap₂ ◌++◌ (sym (ap rule_words (rule_is ws k) ∙ words_shown _ _ (eight k (omega arith)))) (some_words m (k + 1) (omega arith))

  some_ordered : (m k : ℕ) → k + m ≡ n → rows_refusal (least ws (8 * k)) (some k m) ≡ None
  some_ordered zero k e = refl
  some_ordered (suc m) k e =
      ap₂ or_else
      (ap (row_refusal (least ws (8 * k))) (rule_is ws k) ∙ (row_is _ _).1 (row_in_order _ _ (eight k (omega arith))))
      (ap (λ b. rows_refusal b (some (k + 1) m)) (ap (λ r. r.number + 1) (rule_is ws k) ∙ sym (least_next ws k)) ∙ some_ordered m (k + 1) (omega arith))

  words_are_written : ws ≡ sheet_words (rules ws n)
  words_are_written =
      let e : n ≡ length (rules ws n) = sym (length-map-range_with_len (λ k. rule_at ws (8 * k)) 0 n) in
      some_words n 0 (omega arith) ∙ ap (λ c. flat_map rule_words (rules ws n) ++ (6 * 2 ^ 29 + c) ∷ []) e

-- ---- words that were accepted
module _ (ws : List ℕ) (rs : List RuleRow) (places : ℕ) (h : words_read ws places ≡ accepted rs) where
  record Written : Type 0 where
    ordered : rows_refusal 0 rs ≡ None
    same : ws ≡ sheet_words rs
    room : length rs ≤ places

  abbrev place : ℕ
  place = stop ws 0 (length ws)

  read_words : Written
  read_words =
      let t = taken rs ws places place (word_refusal ws place) h in
      let s = stops_first ws in
      let l : last ws place ≡ true = subst (λ o. (is_some o || last ws place) ≡ true) t.in_order s.there in
      let p = and_parts _ _ l in
      let z : place % 8 ≡ 0 = eqb-true _ _ p.0 in
      let e : place ≡ 8 * (place / 8) = omega arith in
      let end = ends_from ws place (sym (due ws place z (in_list ws place t.in_order)) ∙ t.in_order) p.1 in
      let long : 8 * (place / 8) + 1 ≡ length ws = omega (arith, t.ended) in
      let at-end : at ws (8 * (place / 8)) ≡ 6 * 2 ^ 29 + place / 8 = ap (at ws) (sym e) ∙ end in
      let before : (i : ℕ) → i < 8 * (place / 8) → Passes ws i = λ i m. s.before i (omega arith) in
      let r = t.said in
      record {
        ordered = ap (rows_refusal 0) (sym r) ∙ some_ordered ws (place / 8) long at-end before (place / 8) 0 (omega arith);
        same = words_are_written ws (place / 8) long at-end before ∙ ap sheet_words r;
        room = omega (arith, t.room, ap length r, length-map-range_with_len (λ k. rule_at ws (8 * k)) 0 (place / 8));
      }

pub read_is_written_lem : ReadIsWritten
read_is_written_lem bytes rs places small h =
    let t : ((eqb (length bytes) 0 || not (eqb (length bytes % 4) 0)) ≡ false) × (words_read (words bytes) places ≡ accepted rs) = grind arith in
    let b = or_parts (eqb (length bytes) 0) _ t.0 in
    let w = read_words (words bytes) rs places t.1 in
    let back : flat_map word_bytes (words bytes) ≡ bytes = bytes_of_words bytes small (eqb-true _ _ (not-false (eqb (length bytes % 4) 0) b.1)) in
    let sheet : Sheet bytes rs = record { ordered = w.ordered; written = sym back ∙ ap (flat_map word_bytes) w.same } in
    record { sheet = sheet; room = w.room; only = λ other s. one_list bytes other rs s sheet }
