-- What is picked of a list, and what is chosen of it.
use Rattle.std.proofs.Common.{◌≡◌, ℕ, zero, suc, ◌+◌, ◌-◌, ◌<◌, ◌≤◌, Bool, true, false, cond, ltb, leb, List, [], ◌∷◌, ◌++◌, map, length, get_or, sym, refl, ap, ◌∙◌, subst, ap₂, arith}
use Rattle.std.specs.List.{remove, AllByRecursion, IsFirstBest}
use Rattle.std.proofs.ByRecursion.{All-weaker}
use Rattle.std.proofs.lemmas.List.{append-nil, append_assoc, get_or_default}
use Rattle.std.proofs.lemmas.Bool.{ltb-true, ltb-false, le-leb, lt-leb, cond-true, cond-false, cond_both}
use Rattle.groups.specs.Lists.{pick, chosen}
use Rattle.heads.specs.Picked.{Picked}
use Rattle.heads.proofs.Nearest.{first_leads, first_behind}

module _ {X : Type 0} (c : X → ℕ) where
  -- whether x counts more than y
  abbrev pub above : X → X → Bool
  above x y = ltb (c y) (c x)

  -- what holds of all holds of the one that is picked and of the rest
  all_pick : (P : X → Type 0) (x : X) (xs : List X) → AllByRecursion P (x ∷ xs) → P (pick c x xs).0 × AllByRecursion P (pick c x xs).1
  all_pick P x [] a = a
  all_pick P x (y ∷ ys) a =
      let r = all_pick P y ys a.1 in
      cond_both (leb (c (pick c y ys).0) (c x)) _ _ (λ (p : X × List X). P p.0 × AllByRecursion P p.1) (λ _. a) (λ _. (r.0, (a.0, r.1)))

  first_picked : (x : X) (xs : List X) (b : ℕ) → IsFirstBest above (x ∷ xs) (length (x ∷ xs)) b → pick c x xs ≡ (get_or (x ∷ xs) b x, remove (x ∷ xs) b)
  first_picked x [] zero h = refl
  first_picked x [] (suc b) h = absurd (omega (arith, h.0))
  first_picked x (y ∷ ys) zero h =
      let low = All-weaker _ (λ z. c z ≤ c x) (λ z n. ltb-false _ _ n) (y ∷ ys) (first_leads above x (y ∷ ys) h) in
      cond-true _ _ _ (le-leb _ _ (all_pick (λ z. c z ≤ c x) y ys low).0)
  first_picked x (y ∷ ys) (suc b) h =
      let k = first_behind above x (y ∷ ys) b h in
      let e = first_picked y ys b k.1 in
      let same = get_or_default (y ∷ ys) b y x k.1.0 in
      let more : c x < c (pick c y ys).0 = omega (arith, ltb-true _ _ (k.0 x), ap (λ p. c p.0) e, ap c same) in
      cond-false _ _ _ (lt-leb _ _ more) ∙ ap (λ p. (p.0, x ∷ p.1)) e ∙ ap (λ z. (z, x ∷ remove (y ∷ ys) b)) same

  -- at the end of a loop from place 1 on
  pub picked_all : (xs : List X) (i b : ℕ) → IsFirstBest above xs i b → 0 < length xs → length xs ≤ i → (1 ≤ length xs → i ≤ length xs) → Picked c xs b
  picked_all [] i b h some l m = absurd (omega arith)
  picked_all (x ∷ xs) i b h some l m =
      let best = subst (λ n. IsFirstBest above (x ∷ xs) n b) {x = i} {y = length (x ∷ xs)} (omega (arith, m (omega arith))) h in
      (best.0, first_picked x xs b best)

  -- what is picked is chosen first, and then of the rest
  pub picked_chosen : (xs : List X) (i g : ℕ) (d : X) → Picked c xs i → chosen c (suc g) xs ≡ get_or xs i d ∷ chosen c g (remove xs i)
  picked_chosen [] i g d h = absurd h
  picked_chosen (x ∷ xs) i g d h = ap (λ r. r.0 ∷ chosen c g r.1) h.1 ∙ ap (λ z. z ∷ chosen c g (remove (x ∷ xs) i)) (get_or_default (x ∷ xs) i x d h.0)

  chosen_empty : (g : ℕ) → chosen c g [] ≡ []
  chosen_empty zero = refl
  chosen_empty (suc g) = refl

  pub chosen_few : (g : ℕ) (xs : List X) → length (chosen c g xs) ≤ g
  chosen_few zero xs = omega arith
  chosen_few (suc g) [] = omega arith
  chosen_few (suc g) (x ∷ xs) = omega (arith, chosen_few g (pick c x xs).1)

-- elements counted by k, with other elements beside them that c counts the same
module _ {X Y : Type 0} (f : Y → X) (c : X → ℕ) (k : Y → ℕ) where
  abbrev Alike : Y → Type 0
  Alike y = k y ≡ c (f y)

  abbrev both : Y × List Y → X × List X
  both p = (f p.0, map f p.1)

  pick_map : (y : Y) (ys : List Y) → AllByRecursion Alike (y ∷ ys) → pick c (f y) (map f ys) ≡ both (pick k y ys)
  pick_map y [] a = refl
  pick_map y (z ∷ zs) a =
      let r = pick k z zs in
      ap (λ p. cond (leb (c p.0) (c (f y))) (f y, map f (z ∷ zs)) (p.0, f y ∷ p.1)) (pick_map z zs a.1)
      ∙ ap₂ (λ (m n : ℕ). cond (leb m n) (f y, map f (z ∷ zs)) (f r.0, f y ∷ map f r.1)) (sym (all_pick k Alike z zs a.1).0) (sym a.0)
      ∙ go (leb (k r.0) (k y))
    where
      go : (b : Bool) → cond b (f y, map f (z ∷ zs)) (f (pick k z zs).0, f y ∷ map f (pick k z zs).1) ≡ both (cond b (y, z ∷ zs) ((pick k z zs).0, y ∷ (pick k z zs).1))
      go true = refl
      go false = refl

  pub chosen_map : (g : ℕ) (ys : List Y) → AllByRecursion Alike ys → map f (chosen k g ys) ≡ chosen c g (map f ys)
  chosen_map zero ys a = refl
  chosen_map (suc g) [] a = refl
  chosen_map (suc g) (y ∷ ys) a =
      ap (λ l. f (pick k y ys).0 ∷ l) (chosen_map g (pick k y ys).1 (all_pick k Alike y ys a).1)
      ∙ ap (λ p. p.0 ∷ chosen c g p.1) (sym (pick_map y ys a))

  pub all_alike : (ys : List Y) → map k ys ≡ map c (map f ys) → AllByRecursion Alike ys
  all_alike [] e = tt
  all_alike (y ∷ ys) e = (cc, all_alike ys (cc))

module _ {X Y : Type 0} (f : Y → X) (k : Y → ℕ) (g : ℕ) (ys : List Y) where
  -- after i turns hs are chosen; what is chosen of the rest completes them
  abbrev pub Choosing : List Y → List X → ℕ → Type 0
  Choosing rest hs i = hs ++ map f (chosen k (g - i) rest) ≡ map f (chosen k g ys)

  pub choosing_none : Choosing ys [] 0
  choosing_none = ap (λ (n : ℕ). map f (chosen k n ys)) {x = g - 0} {y = g} (omega arith)

  pub choosing_more : (rest : List Y) (hs : List X) (i p : ℕ) (y : Y) → Choosing rest hs i → i < g → Picked k rest p → y ≡ get_or rest p y → Choosing (remove rest p) (hs ++ f y ∷ []) (i + 1)
  choosing_more rest hs i p y h l m e =
      append_assoc hs (f y ∷ []) _
      ∙ ap (λ z. hs ++ f z ∷ map f (chosen k (g - (i + 1)) (remove rest p))) e
      ∙ ap (λ zs. hs ++ map f zs) (sym (picked_chosen k rest p (g - (i + 1)) y m))
      ∙ ap (λ (n : ℕ). hs ++ map f (chosen k n rest)) {x = suc (g - (i + 1))} {y = g - i} (omega arith)
      ∙ h

  pub choosing_empty : (hs : List X) (i : ℕ) → Choosing [] hs i → hs ≡ map f (chosen k g ys)
  choosing_empty hs i h = sym (append-nil hs) ∙ ap (λ zs. hs ++ map f zs) (sym (chosen_empty k (g - i))) ∙ h

  pub choosing_all : (rest : List Y) (hs : List X) (i : ℕ) → Choosing rest hs i → g ≤ i → hs ≡ map f (chosen k g ys)
  choosing_all rest hs i h l = sym (append-nil hs) ∙ ap (λ (n : ℕ). hs ++ map f (chosen k n rest)) {x = 0} {y = g - i} (omega arith) ∙ h
