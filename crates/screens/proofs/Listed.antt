-- The bits at listed places: all set, all tested.
use Rattle.std.proofs.Common.{◌≡◌, ℕ, ◌/◌, ◌%◌, ◌^◌, ◌<◌, ◌≤◌, Bool, true, ◌||◌, eqb, List, [], ◌∷◌, length, drop, fold, sym, refl, ap, ◌∙◌, arith, length-set}
use Rattle.std.specs.List.{AllByRecursion}
use Rattle.std.proofs.lemmas.List.{at_drop_all}
use Rattle.std.proofs.lemmas.Bool.{or_left, or_right}
use Rattle.std.proofs.lemmas.Bool.Decides.{nat_tests}
use Rattle.fields.specs.Lists.{any, all}
use Rattle.keytables.specs.declared.key.Key.{Key}
use Rattle.screens.specs.Places.{places_of, part}
use Rattle.screens.specs.Filters.{bit_at, marked, has_key, Added}
use Rattle.screens.proofs.Words.{bit_marked}

bits_marked : (n : ℕ) (words ps : List ℕ) → length words ≡ n → AllByRecursion (λ p. p / 64 < n) ps → (j : ℕ) → bit_at (fold marked words ps) j ≡ (bit_at words j || any (eqb j) ps)
bits_marked n words [] e h j = grind (arith, nat_tests)
bits_marked n words (p ∷ ps) e h j =
    let l : p / 64 < length words = omega (arith, h.0) in
    grind (arith, nat_tests, bit_marked words p j l, bits_marked n (marked words p) ps (length-set words _ _ ∙ e) h.1 j)

places_within : (k : Key) → AllByRecursion (λ p. p / 64 < 512) (places_of k)
unfolding part
places_within k =
    let low : (x : ℕ) → x % 2 ^ 15 / 64 < 512 = λ x. omega arith in
    (low _, (low _, (low _, (low _, tt))))

-- the bits after all places of a key were marked, of which the loop has gone the first i
pub added_bits : (words late ps : List ℕ) (k : Key) (i : ℕ) → fold marked late (drop i ps) ≡ fold marked words ps → ps ≡ places_of k → length ps ≤ i → length words ≡ 512 → Added words k late
added_bits words late ps k i run is end wide j =
    ap (λ (ws : List ℕ). bit_at ws j) (sym (at_drop_all (fold marked late) ps i end) ∙ run ∙ ap (fold marked words) is)
    ∙ bits_marked 512 words (places_of k) wide (places_within k) j

-- what holds of each number that is listed
all_listed : (t : ℕ → Bool) (xs : List ℕ) → ((j : ℕ) → any (eqb j) xs ≡ true → t j ≡ true) → all t xs ≡ true
all_listed t [] h = refl
all_listed t (x ∷ xs) h = grind (arith, nat_tests, h x, all_listed t xs (λ j e. h j (or_right _ _ e)))

-- a test that passes more
all_wider : (t u : ℕ → Bool) → ((j : ℕ) → t j ≡ true → u j ≡ true) → (xs : List ℕ) → all t xs ≡ true → all u xs ≡ true
all_wider t u h [] e = refl
all_wider t u h (x ∷ xs) e = grind (arith, nat_tests, h x, all_wider t u h xs)

module _ (before : List ℕ) (k : Key) (after : List ℕ) (bits : Added before k after) where
  pub added_says : has_key after k ≡ true
  added_says = all_listed (bit_at after) (places_of k) (λ j e. bits j ∙ or_right _ _ e)

  pub kept_says : (q : Key) → has_key before q ≡ true → has_key after q ≡ true
  kept_says q = all_wider (bit_at before) (bit_at after) (λ j e. bits j ∙ or_left _ _ e) (places_of q)
