-- The words of the bytes of a sheet.
use Rattle.std.proofs.Common.{◌≡◌, ℕ, zero, suc, ◌+◌, ◌*◌, ◌/◌, ◌^◌, ◌<◌, ◌≤◌, List, ◌∷◌, map, length, get_or, take, drop, Some, None, refl, ap, ◌∙◌, ap₂, arith}
use Rattle.std.specs.List.{range_with_len}
use Rattle.std.specs.Simd.{first_chunks}
use Rattle.std.proofs.lemmas.List.{length-map, get_or-map, get_or-take, get_or-drop, drop-drop}
use Rattle.std.proofs.lemmas.Bool.{le-leb, lt-leb, cond-true, cond-false}
use Rattle.sheets.specs.Words.{word_at}
use Rattle.sheets.specs.Reading.{words, at}
use Rattle.reader.specs.Readers.{words_of, missing_or}

module _ (cs : List (List ℕ)) where
  pub length_words_of : length (words_of cs) ≡ length cs
  unfolding words_of
  length_words_of = length-map cs (λ c. word_at c 0)

  pub at_words_of : (i : ℕ) (d : List ℕ) → i < length cs → at (words_of cs) i ≡ word_at (get_or cs i d) 0
  unfolding words_of
  at_words_of i d h = get_or-map (λ c. word_at c 0) cs i d 0 h

  -- past the last word one is missing
  pub present : (i : ℕ) → i < length cs → missing_or (words_of cs) None i ≡ None
  present i h = cond-false _ _ _ (lt-leb (length (words_of cs)) i (omega (arith, length_words_of)))

  pub missing : (i : ℕ) → length cs ≤ i → missing_or (words_of cs) None i ≡ Some 15
  missing i h = cond-true _ _ _ (le-leb (length (words_of cs)) i (omega (arith, length_words_of)))

module _ (bs : List ℕ) where
  chunk_word : (a : ℕ) → word_at (take 4 (drop (4 * a) bs)) 0 ≡ word_at bs a
  chunk_word a =
      let b : (j i : ℕ) → j < 4 → 4 * a + j ≡ i → get_or (take 4 (drop (4 * a) bs)) j 0 ≡ get_or bs i 0 =
      λ j i h e. get_or-take 4 (drop (4 * a) bs) j 0 h ∙ get_or-drop (4 * a) bs j 0 ∙ ap (λ (k : ℕ). get_or bs k 0) e in
      let p = b 0 (4 * a) (omega arith) (omega arith) in
      let q = b 1 (4 * a + 1) (omega arith) refl in
      let r = b 2 (4 * a + 2) (omega arith) refl in
      let s = b 3 (4 * a + 3) (omega arith) refl in
      λ k. p k * 2 ^ 24 + q k * 2 ^ 16 + r k * 2 ^ 8 + s k

  chunk_words : (n a : ℕ) → map (λ c. word_at c 0) (first_chunks 4 n (drop (4 * a) bs)) ≡ map (word_at bs) (range_with_len a n)
  chunk_words zero a = refl
  chunk_words (suc n) a =
      let e : 4 * a + 4 ≡ 4 * (a + 1) = omega arith in
      ap₂ ◌∷◌ (chunk_word a) (ap (λ (cs : List ℕ). map (λ c. word_at c 0) (first_chunks 4 n cs)) (drop-drop 4 (4 * a) bs ∙ ap (λ (k : ℕ). drop k bs) e) ∙ chunk_words n (a + 1))

  pub words_of_chunks : words_of (first_chunks 4 (length bs / 4) bs) ≡ words bs
  unfolding words_of
  words_of_chunks = chunk_words (length bs / 4) 0
