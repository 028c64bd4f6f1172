-- What is worked out of rules by their numbers is what is worked out by their patterns. By number the rules nest as their patterns do, and what
-- is worked out under two nestings is the same where they agree on the patterns that are met.
use Rattle.std.proofs.Common.{◌≡◌, ℕ, zero, suc, ◌+◌, ◌<◌, ◌≤◌, Bool, true, not, ◌&&◌, ◌||◌, eqb, List, [], ◌∷◌, map, length, filter, sym, refl, ap, ◌∙◌, subst, ap₂, arith}
use mathlib.Core.List.{map-map}
use Rattle.std.specs.List.{flat_map, AllByRecursion}
use Rattle.std.proofs.lemmas.List.{length-map}
use Rattle.std.proofs.ByRecursion.{All-map, All-weaker, all_kept_by}
use Rattle.std.proofs.lemmas.Bool.{eqb-true, eq-eqb}
use Rattle.fields.specs.Lists.{any, once}
use Rattle.levels.proofs.Counts.{kept_same}
use Rattle.groups.specs.Rules.{Nesting, Rule}
use Rattle.groups.specs.Keys.{Combination, combinations, used, lies, keys}
use Rattle.groups.specs.Taking.{sorted_by}
use Rattle.groups.specs.ByNumber.{numbered, Among, Agrees, patterns, Lifted, IsByNumber}
use Rattle.groups.proofs.Tests.{Found, all_found, all_once, any_out}
use Rattle.groups.proofs.Combinations.{Places, all_combinations}
use Rattle.groups.proofs.Visits.{lies_from}
use Rattle.groups.proofs.Carry.{pulled, used_moved, keys_moved, sorted_image}

module _ {X : Type 0} where
  any_alike : (s t : X → Bool) (xs : List X) → AllByRecursion (λ x. s x ≡ t x) xs → any s xs ≡ any t xs
  any_alike s t [] h = refl
  any_alike s t (x ∷ xs) h = ap₂ ◌||◌ h.0 (any_alike s t xs h.1)

  map_itself : (f : X → X) (xs : List X) → AllByRecursion (λ x. f x ≡ x) xs → map f xs ≡ xs
  map_itself f [] h = refl
  map_itself f (x ∷ xs) h = ap₂ ◌∷◌ h.0 (map_itself f xs h.1)

  once_alike : (F : X → Type 0) (s t : X → X → Bool) → ((x y : X) → F x → F y → s x y ≡ t x y) → (xs : List X) → AllByRecursion F xs → once s xs ≡ once t xs
  once_alike F s t e [] h = refl
  once_alike F s t e (x ∷ xs) h =
      ap (λ l. x ∷ filter (λ y. not (s x y)) l) (once_alike F s t e xs h.1)
      ∙ ap (λ l. x ∷ l) (kept_same _ _ (once t xs) (All-weaker F _ (λ y k. ap not (e x y h.0 k)) _ (all_once F t xs h.1)))

combinations_alike : {P : ℕ → Type 0} (f g : (i : ℕ) → List (P i)) (n i : ℕ) → ((j : ℕ) → j < i + n → f j ≡ g j) → combinations f i n ≡ combinations g i n
combinations_alike f g zero i h = refl
combinations_alike f g (suc n) i h =
    ap₂ (λ ps ks. flat_map (λ p. map (λ k. (p, k)) ks) ps) (h i (omega arith)) (combinations_alike f g n (suc i) (λ j l. h j (omega arith)))

-- each pattern of the rule has F
abbrev With : {P : ℕ → Type 0} → ((i : ℕ) → P i → Type 0) → Rule P → Type 0
With F r = (i : ℕ) → F i (r.at i)

-- two nestings that agree on the patterns with F
module _
    {P : ℕ → Type 0} (N M : Nesting P) (F : (i : ℕ) → P i → Type 0)
    (agree : (i : ℕ) → i < 5 → (a b : P i) → F i a → F i b → N.within i a b ≡ M.within i a b)
  where
    all_at : (i : ℕ) (rs : List (Rule P)) → AllByRecursion (With F) rs → AllByRecursion (F i) (map (λ r. r.at i) rs)
    all_at i rs h = All-map (F i) (λ r. r.at i) rs (All-weaker (With F) _ (λ r k. k i) rs h)

    used_alike : (i : ℕ) → i < 5 → (rs : List (Rule P)) → AllByRecursion (With F) rs → used N i rs ≡ used M i rs
    used_alike i l rs h = once_alike (F i) _ _ (λ a b f g. ap₂ ◌&&◌ (agree i l a b f g) (agree i l b a g f)) _ (all_at i rs h)

    lies_alike : (n i : ℕ) → i + n ≤ 5 → (k : Combination P i n) → Places F i n k → (r : Rule P) → With F r → lies_from N i n k r ≡ lies_from M i n k r
    lies_alike zero i l k f r h = refl
    lies_alike (suc n) i l k f r h = ap₂ ◌&&◌ (agree i (omega arith) k.0 (r.at i) f.0 (h i)) (lies_alike n (suc i) (omega arith) k.1 f.1 r h)

    all_combined : (rs : List (Rule P)) → AllByRecursion (With F) rs → AllByRecursion (Places F 0 5) (combinations (λ i. used N i rs) 0 5)
    all_combined rs h = all_combinations F (λ i. used N i rs) 5 0 (λ i _. all_once (F i) _ _ (all_at i rs h))

    keys_alike : (rs : List (Rule P)) → AllByRecursion (With F) rs → keys N rs ≡ keys M rs
    keys_alike rs h =
        kept_same _ _ _ (All-weaker (Places F 0 5) (λ k. any (lies N k) rs ≡ any (lies M k) rs)
        (λ k f. any_alike (lies N k) (lies M k) rs (All-weaker (With F) _ (λ r. lies_alike 5 0 (omega arith) k f r) rs h)) _ (all_combined rs h))
        ∙ ap (filter (λ k. any (lies M k) rs)) (combinations_alike (λ i. used N i rs) (λ i. used M i rs) 5 0 (λ i l. used_alike i (omega arith) rs h))

module _ {P : ℕ → Type 0} (N : Nesting P) (rule : ℕ → Rule P) (M : Nesting (λ _. ℕ)) (ms : List ℕ) (agrees : Agrees N rule M ms) where
  abbrev In : ℕ → Type 0
  In n = any (eqb n) ms ≡ true

  -- numbers nest as the patterns of their rules
  abbrev low : Nesting (λ _. ℕ)
  low = pulled (λ i n. (rule n).at i) (λ _. 0) N.within

  of_all : (F : ℕ → Type 0) → AllByRecursion F ms → (n : ℕ) → In n → F n
  of_all F f n h = any_out F (eqb n) (F n) (λ m g e. subst F (sym (eqb-true n m e)) g) ms f h

  agree : (i : ℕ) → i < 5 → (n m : ℕ) → In n → In m → M.within i n m ≡ low.within i n m
  agree i l n m h k = of_all (λ m. M.within i n m ≡ low.within i n m) (of_all _ (agrees i l) n h) m k

  themselves : Among ms ms
  themselves = All-weaker (Found ms) In (λ n f. f (eqb n) (eq-eqb n n refl)) ms (all_found ms)

  abbrev renumber : Rule (λ _. ℕ) → ℕ
  renumber r = (rule r.number).number

  all_numbered : (ns : List ℕ) → Among ms ns → AllByRecursion (With (λ _. In)) (map numbered ns)
  all_numbered ns h = All-map _ numbered ns (All-weaker In _ (λ n k i. k) ns h)

  used_numbers : (ns : List ℕ) → Among ms ns → (i : ℕ) → i < 5 → used N i (map rule ns) ≡ map (λ n. (rule n).at i) (used M i (map numbered ns))
  used_numbers ns h i l =
      ap (used N i) (sym (map-map _ numbered ns))
      ∙ used_moved (λ i n. (rule n).at i) (λ _. 0) N.within renumber i (map numbered ns)
      ∙ ap (map (λ n. (rule n).at i)) (sym (used_alike M low (λ _. In) agree i l (map numbered ns) (all_numbered ns h)))

  keys_numbers : (ns : List ℕ) → Among ms ns → keys N (map rule ns) ≡ map (patterns N rule M ms) (keys M (map numbered ns))
  keys_numbers ns h =
      ap (keys N) (sym (map-map _ numbered ns))
      ∙ keys_moved (λ i n. (rule n).at i) (λ _. 0) N.within renumber (map numbered ns)
      ∙ ap (map (patterns N rule M ms)) (sym (keys_alike M low (λ _. In) agree (map numbered ns) (all_numbered ns h)))

  -- a rule that is one of the numbered
  abbrev Known : Rule (λ _. ℕ) → Type 0
  Known r = In r.number × (numbered r.number ≡ r)

  count_numbers : (qs : List (Rule (λ _. ℕ))) → AllByRecursion Known qs → length (keys N (map (λ r. rule r.number) qs)) ≡ length (keys M qs)
  count_numbers qs h =
      let ns = map (λ r. r.number) qs in
      ap (λ l. length (keys N l)) (sym (map-map rule (λ r. r.number) qs))
      ∙ ap length (keys_numbers ns (All-map In (λ r. r.number) qs (All-weaker Known _ (λ r k. k.0) qs h)))
      ∙ length-map (keys M (map numbered ns)) (patterns N rule M ms)
      ∙ ap (λ l. length (keys M l)) (map-map numbered (λ r. r.number) qs ∙ map_itself _ qs (All-weaker Known _ (λ r k. k.1) qs h))

  lifted : Lifted N rule M ms
  lifted =
      record {
        uses = used_numbers;
        has_keys = keys_numbers;
        contains = λ ns h.
            all_kept_by _ _ _ (All-weaker (Places (λ _. In) 0 5) _
            (λ k f. All-weaker In _ (λ n i. sym (lies_alike M low (λ _. In) agree 5 0 (omega arith) k f (numbered n) (λ _. i))) ms themselves)
            _ (all_combined M low (λ _. In) agree (map numbered ns) (all_numbered ns h)));
        sorts = λ sub by h t.
            ap (sorted_by N sub t) (sym (map-map (λ r. rule r.number) numbered ms))
            ∙ sorted_image M N (λ r. rule r.number) Known by sub count_numbers
            (λ r k. of_all (λ n. sub (rule n) ≡ by (numbered n)) h r.number k.0 ∙ ap by k.1) t (map numbered ms) (All-map Known numbered ms (All-weaker In _ (λ n i. (i, refl)) ms themselves));
      }

pub by_number : {P : ℕ → Type 0} → IsByNumber P
by_number = lifted
