-- Words and their bytes are one another's.
use Rattle.std.proofs.Common.{◌≡◌, ℕ, zero, suc, ◌+◌, ◌*◌, ◌/◌, ◌%◌, ◌^◌, ◌<◌, ◌≤◌, List, [], ◌∷◌, ◌++◌, map, length, get_or, drop, sym, refl, ap, ◌∙◌, ap₂, mul-suc, arith}
use Rattle.std.specs.List.{range_with_len, flat_map, AllByRecursion}
use Rattle.std.proofs.lemmas.List.{drop_more, drop_all, drop-drop, get_or-drop, length-append}
use Rattle.std.proofs.ByRecursion.{All-get_or}
use Rattle.sheets.specs.Words.{word_at, word_bytes}
use Rattle.sheets.specs.Reading.{words}

-- ---- a list from place i on
module _ (xs : List ℕ) (i : ℕ) where
  split_from : (n a : ℕ) → i + (a + n) ≤ length xs → drop (i + a) xs ≡ map (λ j. get_or xs (i + j) 0) (range_with_len a n) ++ drop (i + (a + n)) xs
  split_from zero a l = let e : a ≡ a + 0 = omega arith in ap (λ j. drop (i + j) xs) e
  split_from (suc n) a l =
      let e : i + a + 1 ≡ i + (a + 1) = omega arith in
      let f : a + 1 + n ≡ a + suc n = omega arith in
      drop_more xs (i + a) 0 (omega arith) ∙
      ap (λ t. get_or xs (i + a) 0 ∷ t)
      (ap (λ j. drop j xs) e ∙ (split_from n (a + 1) (omega arith) ∙ ap (λ j. map (λ b. get_or xs (i + b) 0) (range_with_len (a + 1) n) ++ drop (i + j) xs) f))

  -- its next n elements, and the others
  pub split : (n j : ℕ) → i + n ≡ j → j ≤ length xs → drop i xs ≡ map (λ b. get_or xs (i + b) 0) (range_with_len 0 n) ++ drop j xs
  split n j e l =
      let f : i ≡ i + 0 = omega arith in
      let g : i + (0 + n) ≡ j = omega arith in
      ap (λ k. drop k xs) f ∙ (split_from n 0 (omega arith) ∙ ap (λ k. map (λ b. get_or xs (i + b) 0) (range_with_len 0 n) ++ drop k xs) g)

  module _ (ys : List ℕ) (e : drop i xs ≡ ys) where
    pub at_drop : (j : ℕ) → get_or xs (i + j) 0 ≡ get_or ys j 0
    at_drop j = sym (get_or-drop i xs j 0) ∙ ap (λ l. get_or l j 0) e

    pub on_drop : (n j : ℕ) → i + n ≡ j → drop j xs ≡ drop n ys
    on_drop n j f = ap (λ k. drop k xs) (sym f) ∙ (sym (drop-drop n i xs) ∙ ap (drop n) e)

pub length_joined : {X A : Type 0} (f : X → List A) (n : ℕ) → ((x : X) → length (f x) ≡ n) → (xs : List X) → length (flat_map f xs) ≡ n * length xs
length_joined f n h [] = omega arith
length_joined f n h (x ∷ xs) = omega (arith, length-append (f x) (flat_map f xs), h x, length_joined f n h xs, mul-suc n (length xs))

-- ---- words to bytes, and back
words_from : (bs ws : List ℕ) (k : ℕ) → drop (4 * k) bs ≡ flat_map word_bytes ws → map (word_at bs) (range_with_len k (length ws)) ≡ ws
words_from bs [] k e = refl
words_from bs (w ∷ ws) k e =
    let z : 4 * k ≡ 4 * k + 0 = omega arith in
    let a : get_or bs (4 * k) 0 ≡ w / 2 ^ 24 = ap (λ i. get_or bs i 0) z ∙ at_drop bs (4 * k) _ e 0 in
    let b : get_or bs (4 * k + 1) 0 ≡ w / 2 ^ 16 % 256 = at_drop bs (4 * k) _ e 1 in
    let c : get_or bs (4 * k + 2) 0 ≡ w / 2 ^ 8 % 256 = at_drop bs (4 * k) _ e 2 in
    let d : get_or bs (4 * k + 3) 0 ≡ w % 256 = at_drop bs (4 * k) _ e 3 in
    ap₂ ◌∷◌ (omega arith) (words_from bs ws (k + 1) (on_drop bs (4 * k) _ e 4 (4 * (k + 1)) (omega arith)))

pub length_bytes : (ws : List ℕ) → length (flat_map word_bytes ws) ≡ 4 * length ws
length_bytes ws = length_joined word_bytes 4 (λ w. refl) ws

pub words_of_bytes : (ws : List ℕ) → words (flat_map word_bytes ws) ≡ ws
words_of_bytes ws =
    let e : length (flat_map word_bytes ws) / 4 ≡ length ws = omega (arith, length_bytes ws) in
    ap (λ n. map (word_at (flat_map word_bytes ws)) (range_with_len 0 n)) e ∙ words_from (flat_map word_bytes ws) ws 0 refl

four : (a b c d : ℕ) → a < 256 → b < 256 → c < 256 → d < 256 → word_bytes (a * 2 ^ 24 + b * 2 ^ 16 + c * 2 ^ 8 + d) ≡ a ∷ b ∷ c ∷ d ∷ []
four a b c d p q r s = ap₂ ◌∷◌ (omega arith) (ap₂ ◌∷◌ (omega arith) (ap₂ ◌∷◌ (omega arith) (ap₂ ◌∷◌ (omega arith) refl)))

module _ (bs : List ℕ) (small : AllByRecursion (λ b. b < 256) bs) where
  bytes_from : (n k : ℕ) → 4 * (k + n) ≡ length bs → flat_map word_bytes (map (word_at bs) (range_with_len k n)) ≡ drop (4 * k) bs
  bytes_from zero k e = sym (drop_all (4 * k) bs (omega arith))
  bytes_from (suc n) k e =
      let z : 4 * k ≡ 4 * k + 0 = omega arith in
      let at : (j : ℕ) → j < 4 → get_or bs (4 * k + j) 0 < 256 = λ j l. All-get_or (λ b. b < 256) bs (4 * k + j) 0 (omega arith) small in
      ap (λ t. word_bytes (word_at bs k) ++ t) (bytes_from n (k + 1) (omega arith)) ∙
      (ap (λ i. word_bytes (get_or bs i 0 * 2 ^ 24 + get_or bs (4 * k + 1) 0 * 2 ^ 16 + get_or bs (4 * k + 2) 0 * 2 ^ 8 + get_or bs (4 * k + 3) 0) ++ drop (4 * (k + 1)) bs) z ∙
      (ap (λ t. t ++ drop (4 * (k + 1)) bs) (four _ _ _ _ (at 0 (omega arith)) (at 1 (omega arith)) (at 2 (omega arith)) (at 3 (omega arith))) ∙
      sym (split bs (4 * k) 4 (4 * (k + 1)) (omega arith) (omega arith))))

  pub bytes_of_words : length bs % 4 ≡ 0 → flat_map word_bytes (words bs) ≡ bs
  bytes_of_words e = bytes_from (length bs / 4) 0 (omega arith)
