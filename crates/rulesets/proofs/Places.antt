-- The members of a set, word by word.
use Rattle.std.proofs.Common.{◌≡◌, ℕ, zero, suc, ◌+◌, ◌-◌, ◌*◌, ◌/◌, ◌%◌, ◌^◌, ◌<◌, min, Bool, cond, eqb, ◌⊎◌, List, [], ◌∷◌, ◌++◌, length, get_or, set, filter, sym, refl, ap, ◌∙◌, ap₂, inl, inr, pow-suc, arith, length-append}
use lib.Bits.{bit_and, and_step, and_self}
use lib.Count.{ones, ones_in, ones_step, count_trailing_zeros, under}
use Rattle.std.specs.Prelude.{nat_eq}
use Rattle.std.specs.Cmp.Lexicographic.{pointwise}
use Rattle.std.specs.List.{range_with_len}
use Rattle.std.proofs.lemmas.Nat.{mod_below, shr-shr}
use Rattle.std.proofs.lemmas.List.Elements.{filter-append}
use Rattle.std.proofs.lemmas.Bool.Decides.{nat_tests}
use Rattle.rulesets.specs.Sets.{has, members}
use Rattle.rulesets.specs.declared.ruleset.RuleSet.{RuleSet}
use Rattle.rulesets.proofs.Members.{members_at}
use Rattle.rulesets.proofs.Words.{bit}

-- b in front, where the digit d is 1
abbrev led : ℕ → ℕ → List ℕ → List ℕ
led d b xs = cond (eqb d 1) (b ∷ xs) xs

-- the places of the ones among the lowest k bits of w, counted from b
places : ℕ → ℕ → ℕ → List ℕ
places b zero w = []
places b (suc k) w = led (w % 2) b (places (b + 1) k (w / 2))

-- those of several words, each of 64 bits
parts : ℕ → List ℕ → List ℕ
parts b [] = []
parts b (w ∷ ws) = places b 64 w ++ parts (b + 64) ws

half : (k w : ℕ) → w < 2 ^ suc k → w / 2 < 2 ^ k
half k w h = omega (arith, pow-suc 2 k)

-- the lowest bit is 0 or 1
by_lowest : (w : ℕ) (P : ℕ → Type 0) → (w % 2 ≡ 0 → P 0) → (w % 2 ≡ 1 → P 1) → P (w % 2)
by_lowest w P even odd = go (w % 2) refl (mod_below w 2 (omega arith))
  where
    go : (d : ℕ) → w % 2 ≡ d → d < 2 → P d
    go zero e h = even e
    go (suc zero) e h = odd e
    go (suc (suc d)) e h = absurd (omega arith)

places_zero : (b k : ℕ) → places b k 0 ≡ []
unfolding places
places_zero b zero = refl
places_zero b (suc k) = places_zero (b + 1) k

length_places : (b k w : ℕ) → w < 2 ^ k → length (places b k w) ≡ ones w
unfolding places ones ones_in
length_places b zero w h = let e : 0 ≡ w = omega arith in ap ones e
length_places b (suc k) w h =
    let i = length_places (b + 1) k (w / 2) (half k w h) in
    by_lowest w (λ d. length (led d b (places (b + 1) k (w / 2))) ≡ d + ones (w / 2)) (λ _. omega arith) (λ _. omega arith) ∙ sym (ones_step w)

-- the lowest one is taken out
popped_places : (b k w : ℕ) → 0 < w → w < 2 ^ k → places b k w ≡ (b + count_trailing_zeros k w) ∷ places b k (bit_and w (w - 1))
unfolding places count_trailing_zeros
popped_places b zero w p h = absurd (omega arith)
popped_places b (suc k) w p h =
    let v = bit_and w (w - 1) in
    let step = and_step w (w - 1) in
    let clear : min (w % 2) ((w - 1) % 2) ≡ 0 = omega arith in
    let even : v % 2 ≡ 0 = omega arith in
    let rest : v / 2 ≡ bit_and (w / 2) ((w - 1) / 2) = omega arith in
    let left : places b (suc k) v ≡ places (b + 1) k (v / 2) = ap (λ (d : ℕ). led d b (places (b + 1) k (v / 2))) even in
    by_lowest w
    (λ d. led d b (places (b + 1) k (w / 2)) ≡ (b + under d (count_trailing_zeros k (w / 2))) ∷ places b (suc k) v)
    (λ e.
    let half-less : w / 2 - 1 ≡ (w - 1) / 2 = omega arith in
    popped_places (b + 1) k (w / 2) (omega arith) (half k w h)
    ∙ ap₂ (λ (x : ℕ) ys. x ∷ ys) (omega arith) (ap (places (b + 1) k) (ap (bit_and (w / 2)) half-less ∙ sym rest) ∙ sym left))
    (λ e.
    let half-same : (w - 1) / 2 ≡ w / 2 = omega arith in
    ap₂ (λ (x : ℕ) ys. x ∷ ys) (omega arith) (ap (places (b + 1) k) (sym (rest ∙ ap (bit_and (w / 2)) half-same ∙ and_self (w / 2))) ∙ sym left))

-- ---- the numbers that pass a test, where bits tell which

counting_split : (a j k : ℕ) → range_with_len a (j + k) ≡ range_with_len a j ++ range_with_len (a + j) k
counting_split a zero k = ap₂ range_with_len (omega arith) (omega arith)
counting_split a (suc j) k =
    let e : suc j + k ≡ suc (j + k) = omega arith in
    let d : (a + 1) + j ≡ a + suc j = omega arith in
    ap (range_with_len a) e ∙ ap (λ xs. a ∷ xs) (counting_split (a + 1) j k) ∙ ap (λ (b : ℕ). a ∷ (range_with_len (a + 1) j ++ range_with_len b k)) d

module _ (p : ℕ → Bool) where
  kept_split : (a j k : ℕ) → filter p (range_with_len a (j + k)) ≡ filter p (range_with_len a j) ++ filter p (range_with_len (a + j) k)
  kept_split a j k = ap (filter p) (counting_split a j k) ∙ filter-append p (range_with_len a j) (range_with_len (a + j) k)

  kept_places : (b k w : ℕ) → ((j : ℕ) → j < k → p (b + j) ≡ bit w j) → filter p (range_with_len b k) ≡ places b k w
  unfolding places
  kept_places b zero w h = refl
  kept_places b (suc k) w h =
      let here : b ≡ b + 0 = omega arith in
      let whole : w / 1 ≡ w = omega arith in
      ap₂ (λ x ys. cond x (b ∷ ys) ys)
      (ap p here ∙ h 0 (omega arith) ∙ ap (λ (x : ℕ). eqb (x % 2) 1) whole)
      (kept_places (b + 1) k (w / 2) (λ j l. let up : b + 1 + j ≡ b + (1 + j) = omega arith in ap p up ∙ h (1 + j) (omega arith) ∙ ap (λ (x : ℕ). eqb (x % 2) 1) (sym (shr-shr w 1 j))))

  kept_parts : (b : ℕ) (ws : List ℕ) → ((i j : ℕ) → i < length ws → j < 64 → p (b + i * 64 + j) ≡ bit (get_or ws i 0) j) → filter p (range_with_len b (length ws * 64)) ≡ parts b ws
  unfolding parts
  kept_parts b [] h = refl
  kept_parts b (w ∷ ws) h =
      let e : suc (length ws) * 64 ≡ 64 + length ws * 64 = omega arith in
      ap (λ (k : ℕ). filter p (range_with_len b k)) e
      ∙ kept_split b 64 (length ws * 64)
      ∙ ap₂ (λ xs ys. xs ++ ys)
      (kept_places b 64 w (λ j l. let here : b + j ≡ b + 0 * 64 + j = omega arith in ap p here ∙ h 0 j (omega arith) l))
      (kept_parts (b + 64) ws (λ i j k l. let next : b + 64 + i * 64 + j ≡ b + (suc i) * 64 + j = omega arith in ap p next ∙ h (suc i) j (omega arith) l))

members_parts : (s : RuleSet) → members s ≡ parts 0 s.words
unfolding has
members_parts s =
    members_at s (length s.words * 64) (omega (arith, s.sized))
    ∙ kept_parts (has s) 0 s.words
    (λ i j k l.
    let word : (0 + i * 64 + j) / 64 ≡ i = omega arith in
    let place : (0 + i * 64 + j) % 64 ≡ j = omega arith in
    ap₂ (λ (x y : ℕ). bit (get_or s.words x 0) y) word place)

-- ---- sets

empty_parts : (b : ℕ) (ws : List ℕ) → ((k : ℕ) → k < length ws → get_or ws k 0 ≡ 0) → parts b ws ≡ []
unfolding parts
empty_parts b [] h = refl
empty_parts b (w ∷ ws) h = ap₂ (λ xs ys. xs ++ ys) (ap (places b 64) (h 0 (omega arith)) ∙ places_zero b 64) (empty_parts (b + 64) ws (λ k l. h (suc k) (omega arith)))

popped_parts : (b : ℕ) (ws : List ℕ) (i w : ℕ) → i < length ws → ((k : ℕ) → k < i → get_or ws k 0 ≡ 0) → w ≡ get_or ws i 0 → 0 < w → w < 2 ^ 64
    → parts b ws ≡ (b + i * 64 + count_trailing_zeros 64 w) ∷ parts b (set ws i (bit_and w (w - 1)))
unfolding parts
popped_parts b [] i w l h e p f = absurd (omega arith)
popped_parts b (v ∷ ws) zero w l h e p f =
    let s : b + count_trailing_zeros 64 w ≡ b + 0 * 64 + count_trailing_zeros 64 w = omega arith in
    ap (λ (x : ℕ). places b 64 x ++ parts (b + 64) ws) (sym e) ∙ ap (λ xs. xs ++ parts (b + 64) ws) (popped_places b 64 w p f)
    ∙ ap (λ (x : ℕ). x ∷ (places b 64 (bit_and w (w - 1)) ++ parts (b + 64) ws)) s
popped_parts b (v ∷ ws) (suc i) w l h e p f =
    let none = ap (places b 64) (h 0 (omega arith)) ∙ places_zero b 64 in
    let s : b + 64 + i * 64 + count_trailing_zeros 64 w ≡ b + (suc i) * 64 + count_trailing_zeros 64 w = omega arith in
    ap (λ xs. xs ++ parts (b + 64) ws) none ∙ popped_parts (b + 64) ws i w (omega arith) (λ k m. h (suc k) (omega arith)) e p f
    ∙ ap₂ (λ (x : ℕ) xs. x ∷ (xs ++ parts (b + 64) (set ws i (bit_and w (w - 1))))) s (sym none)

pub members_empty : (s : RuleSet) → ((k : ℕ) → k < 4 → get_or s.words k 0 ≡ 0) → members s ≡ []
members_empty s h = members_parts s ∙ empty_parts 0 s.words (λ k l. h k (omega (arith, s.sized)))

pub members_popped : (s t : RuleSet) (i : ℕ) → i < 4 → ((k : ℕ) → k < i → get_or s.words k 0 ≡ 0) → (get_or s.words i 0 ≡ 0 → ⊥) → get_or s.words i 0 < 2 ^ 64
    → t.words ≡ set s.words i (bit_and (get_or s.words i 0) (get_or s.words i 0 - 1)) → members s ≡ (i * 64 + count_trailing_zeros 64 (get_or s.words i 0)) ∷ members t
members_popped s t i l h ne f e =
    let place : 0 + i * 64 + count_trailing_zeros 64 (get_or s.words i 0) ≡ i * 64 + count_trailing_zeros 64 (get_or s.words i 0) = omega arith in
    members_parts s ∙ popped_parts 0 s.words i (get_or s.words i 0) (omega (arith, s.sized)) h refl (omega arith) f
    ∙ ap₂ (λ (x : ℕ) ys. x ∷ ys) place (ap (parts 0) (sym e) ∙ sym (members_parts t))

four : (ws : List ℕ) → length ws ≡ 4 → ws ≡ get_or ws 0 0 ∷ get_or ws 1 0 ∷ get_or ws 2 0 ∷ get_or ws 3 0 ∷ []
four [] e = absurd (omega arith)
four (a ∷ []) e = absurd (omega arith)
four (a ∷ b ∷ []) e = absurd (omega arith)
four (a ∷ b ∷ c ∷ []) e = absurd (omega arith)
four (a ∷ b ∷ c ∷ d ∷ []) e = refl
four (a ∷ b ∷ c ∷ d ∷ f ∷ ws) e = absurd (omega arith)

ones_none : (w : ℕ) → w < 2 ^ 64 → ((w ≡ 0) × (ones w ≡ 0)) ⊎ ((0 < w) × (0 < ones w))
unfolding ones ones_in
ones_none zero f = inl (refl, refl)
ones_none (suc w) f =
    inr (omega arith, omega (arith, length_places 0 64 (suc w) f, ap length (popped_places 0 64 (suc w) (omega arith) f)))

-- a set whose words are of 64 bits
module _ (s : RuleSet) (f : get_or s.words 0 0 < 2 ^ 64) (g : get_or s.words 1 0 < 2 ^ 64) (h : get_or s.words 2 0 < 2 ^ 64) (i : get_or s.words 3 0 < 2 ^ 64) where
  pub length_members : length (members s) ≡ ones (get_or s.words 0 0) + ones (get_or s.words 1 0) + ones (get_or s.words 2 0) + ones (get_or s.words 3 0)
  unfolding parts
  length_members =
      ap length (members_parts s ∙ ap (parts 0) (four s.words s.sized))
      ∙ simp length-append (omega (arith, length_places 0 64 _ f, length_places 64 64 _ g, length_places 128 64 _ h, length_places 192 64 _ i))

  pub empty_members : pointwise nat_eq s.words (0 ∷ 0 ∷ 0 ∷ 0 ∷ []) ≡ eqb (length (members s)) 0
  empty_members =
      ap (λ ws. pointwise nat_eq ws (0 ∷ 0 ∷ 0 ∷ 0 ∷ [])) (four s.words s.sized)
      ∙ grind (arith, nat_tests, length_members, ones_none (get_or s.words 0 0) f, ones_none (get_or s.words 1 0) g, ones_none (get_or s.words 2 0) h, ones_none (get_or s.words 3 0) i)
