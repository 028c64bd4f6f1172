-- What is worked out of rules whose patterns are replaced by others that nest alike is what was worked out before, replaced.
-- It is enough to see it where the tests below are the tests above by definition (`pulled`): the others are a path to it.
use Rattle.std.proofs.Common.{◌≡◌, ℕ, zero, suc, ◌+◌, ◌-◌, Bool, true, false, cond, not, ◌&&◌, eqb, leb, List, [], ◌∷◌, ◌++◌, map, length, fold, filter, sym, refl, ap, ◌∙◌, ap₂, subst₂}
use mathlib.Core.Path.{fun_ext}
use mathlib.Core.List.{map-map}
use Rattle.std.specs.List.{flat_map, AllByRecursion}
use Rattle.std.proofs.lemmas.List.{map-append, length-map, map_push}
use Rattle.std.proofs.ByRecursion.{all_kept_by, All-push, All-weaker}
use Rattle.std.proofs.lemmas.Bool.{cond_both}
use Rattle.fields.specs.Lists.{any, once}
use Rattle.levels.specs.Levels.{same, around, marked}
use Rattle.levels.proofs.Counts.{everywhere, kept_same}
use Rattle.groups.specs.Lists.{chosen, line}
use Rattle.groups.specs.Rules.{Nesting, Rule}
use Rattle.groups.specs.Tuples.{equal, nearest_head, level_at, tuple, population, heads, subset}
use Rattle.groups.specs.Keys.{combinations, used, lies, keys}
use Rattle.groups.specs.Taking.{Sorted, members, growth, sort_rule, sorted_by, most_keys}
use Rattle.groups.specs.Theorems.{carry, carry_key, Carried, Carries}
use Rattle.groups.proofs.Tests.{any_map}

module _ {X Y : Type 0} (f : X → Y) where
  pub kept_map : (t : Y → Bool) (xs : List X) → filter t (map f xs) ≡ map f (filter (λ x. t (f x)) xs)
  kept_map t [] = refl
  kept_map t (x ∷ xs) = go (t (f x)) (kept_map t xs)
    where
      go : (b : Bool) → filter t (map f xs) ≡ map f (filter (λ x. t (f x)) xs) → cond b (f x ∷ filter t (map f xs)) (filter t (map f xs)) ≡ map f (cond b (x ∷ filter (λ x. t (f x)) xs) (filter (λ x. t (f x)) xs))
      go true ih = ap (λ l. f x ∷ l) ih
      go false ih = ih

  once_map : (eq : Y → Y → Bool) (xs : List X) → once eq (map f xs) ≡ map f (once (λ a b. eq (f a) (f b)) xs)
  once_map eq [] = refl
  once_map eq (x ∷ xs) = ap (λ l. f x ∷ l) (ap (filter (λ y. not (eq (f x) y))) (once_map eq xs) ∙ kept_map (λ y. not (eq (f x) y)) (once (λ a b. eq (f a) (f b)) xs))

  cond_map : (b : Bool) (x y : X) → cond b (f x) (f y) ≡ f (cond b x y)
  cond_map true x y = refl
  cond_map false x y = refl

  pub map_joined : {Z : Type 0} (g : Z → List X) (zs : List Z) → map f (flat_map g zs) ≡ flat_map (λ z. map f (g z)) zs
  map_joined g [] = refl
  map_joined g (z ∷ zs) = map-append f (g z) (flat_map g zs) ∙ ap (λ l. map f (g z) ++ l) (map_joined g zs)

  joined_map : {Z : Type 0} (g : Y → List Z) (xs : List X) → flat_map g (map f xs) ≡ flat_map (λ x. g (f x)) xs
  joined_map g [] = refl
  joined_map g (x ∷ xs) = ap (λ l. g (f x) ++ l) (joined_map g xs)

-- The sorting of rules, and of their images under f. Of rules with I a rule and its image are of one subset, and some together have as many keys
-- as their images.
module _
    {P Q : ℕ → Type 0} (N : Nesting P) (M : Nesting Q) (f : Rule P → Rule Q) (I : Rule P → Type 0) (sub : Rule P → ℕ) (sub' : Rule Q → ℕ)
    (count : (qs : List (Rule P)) → AllByRecursion I qs → length (keys M (map f qs)) ≡ length (keys N qs)) (like : (r : Rule P) → I r → sub' (f r) ≡ sub r) (t : ℕ)
  where
    abbrev image : Sorted P → Sorted Q
    image s = record { taken = map f s.taken; total = s.total; shelf = map f s.shelf }

    members_image : (r : Rule P) → I r → (qs : List (Rule P)) → AllByRecursion I qs → members sub' (sub' (f r)) (map f qs) ≡ map f (members sub (sub r) qs)
    members_image r h qs hs = kept_map f (λ q. eqb (sub' q) (sub' (f r))) qs ∙ ap (map f) (kept_same _ _ qs (All-weaker I _ (λ q k. ap₂ eqb (like q k) (like r h)) qs hs))

    growth_image : (qs : List (Rule P)) → AllByRecursion I qs → (r : Rule P) → I r → growth M sub' (map f qs) (f r) ≡ growth N sub qs r
    growth_image qs hs r h =
        let m = members sub (sub r) qs in
        let hm = all_kept_by (λ q. eqb (sub q) (sub r)) I qs hs in
        ap (λ l. length (keys M (l ++ f r ∷ [])) - length (keys M l)) (members_image r h qs hs)
        ∙ ap₂ ◌-◌ (ap (λ l. length (keys M l)) (sym (map_push f m r)) ∙ count (m ++ r ∷ []) (All-push I m r hm h)) (count m hm)

    outcome : Sorted P → ℕ → List (Rule Q) → List (Rule Q) → Sorted Q
    outcome s n a b =
        cond (leb n t && leb (s.total + n) most_keys) (record { taken = a; total = s.total + n; shelf = map f s.shelf }) (record { taken = map f s.taken; total = s.total; shelf = b })

    step_image : (s : Sorted P) → AllByRecursion I s.taken → (r : Rule P) → I r → sort_rule M sub' t (image s) (f r) ≡ image (sort_rule N sub t s r)
    unfolding outcome
    step_image s hs r h =
        let n = growth N sub s.taken r in
        ap (λ n. outcome s n (map f s.taken ++ f r ∷ []) (map f s.shelf ++ f r ∷ [])) (growth_image s.taken hs r h)
        ∙ ap₂ (outcome s n) (sym (map_push f s.taken r)) (sym (map_push f s.shelf r))
        ∙ cond_map image (leb n t && leb (s.total + n) most_keys) (record { taken = s.taken ++ r ∷ []; total = s.total + n; shelf = s.shelf }) (record { taken = s.taken; total = s.total; shelf = s.shelf ++ r ∷ [] })

    folded_image : (qs : List (Rule P)) → AllByRecursion I qs → (s : Sorted P) → AllByRecursion I s.taken → fold (sort_rule M sub' t) (image s) (map f qs) ≡ image (fold (sort_rule N sub t) s qs)
    folded_image [] h s hs = refl
    folded_image (q ∷ qs) h s hs =
        ap (λ u. fold (sort_rule M sub' t) u (map f qs)) (step_image s hs q h.0)
        ∙ folded_image qs h.1 (sort_rule N sub t s q) (cond_both _ _ _ (λ (u : Sorted P). AllByRecursion I u.taken) (λ _. All-push I s.taken q hs h.0) (λ _. hs))

    pub sorted_image : (qs : List (Rule P)) → AllByRecursion I qs → sorted_by M sub' t (map f qs) ≡ image (sorted_by N sub t qs)
    sorted_image qs h = folded_image qs h (record { taken = []; total = 0; shelf = [] }) tt

module _ {P Q : ℕ → Type 0} (f : (i : ℕ) → P i → Q i) where
  combinations_carry : (g : (i : ℕ) → List (P i)) (n i : ℕ) → combinations (λ j. map (f j) (g j)) i n ≡ map (carry_key f i n) (combinations g i n)
  combinations_carry g zero i = refl
  combinations_carry g (suc n) i =
      joined_map (f i) (λ q. map (λ k. (q, k)) (combinations (λ j. map (f j) (g j)) (suc i) n)) (g i)
      ∙ ap (λ h. flat_map h (g i)) (fun_ext (λ p.
      ap (map (λ k. (f i p, k))) (combinations_carry g n (suc i))
      ∙ map-map (λ k. (f i p, k)) (carry_key f (suc i) n) (combinations g (suc i) n)
      ∙ sym (map-map (carry_key f i (suc n)) (λ k. (p, k)) (combinations g (suc i) n))))
      ∙ sym (map_joined (carry_key f i (suc n)) (λ p. map (λ k. (p, k)) (combinations g (suc i) n)) (g i))

  module _ (w : (i : ℕ) → P i) (W : (i : ℕ) → Q i → Q i → Bool) where
    abbrev pub pulled : Nesting P
    pulled = record { whole = w; within = λ i a b. W i (f i a) (f i b) }

    abbrev pub above : Nesting Q
    above = record { whole = λ i. f i (w i); within = W }

    -- the number of a rule does not count: it may be any
    module _ (m : Rule P → ℕ) where
      abbrev pub moved : Rule P → Rule Q
      moved r = record { number = m r; at = λ i. f i (r.at i) }

      at_moved : (i : ℕ) (qs : List (Rule P)) → map (λ r. r.at i) (map moved qs) ≡ map (f i) (map (λ r. r.at i) qs)
      at_moved i qs = map-map (λ r. r.at i) moved qs ∙ sym (map-map (f i) (λ r. r.at i) qs)

      pub used_moved : (i : ℕ) (qs : List (Rule P)) → used above i (map moved qs) ≡ map (f i) (used pulled i qs)
      used_moved i qs = ap (once (same (W i))) (at_moved i qs) ∙ once_map (f i) (same (W i)) (map (λ r. r.at i) qs)

      pub keys_moved : (qs : List (Rule P)) → keys above (map moved qs) ≡ map (carry_key f 0 5) (keys pulled qs)
      keys_moved qs =
          let below = combinations (λ i. used pulled i qs) 0 5 in
          ap (λ g. filter (λ k. any (lies above k) (map moved qs)) (combinations g 0 5)) (fun_ext (λ i. used_moved i qs))
          ∙ ap (filter (λ k. any (lies above k) (map moved qs))) (combinations_carry (λ i. used pulled i qs) 5 0)
          ∙ kept_map (carry_key f 0 5) (λ k. any (lies above k) (map moved qs)) below
          ∙ ap (λ t. map (carry_key f 0 5) (filter t below)) (fun_ext (λ k. any_map (lies above (carry_key f 0 5 k)) moved qs))

    module _ (rs : List (Rule P)) where
      abbrev up : List (Rule P) → List (Rule Q)
      up qs = map (carry f) qs

      levels : (i : ℕ) (p : P i) → level_at above (up rs) i (f i p) ≡ level_at pulled rs i p
      levels i p =
          let ms = marked (pulled.within i) (w i) (map (λ r. r.at i) rs) in
          ap (λ l. length (filter (around (W i) (f i p)) (once (same (W i)) (f i (w i) ∷ l)))) (at_moved (λ r. r.number) i rs)
          ∙ ap (λ l. length (filter (around (W i) (f i p)) l)) (once_map (f i) (same (W i)) (w i ∷ map (λ r. r.at i) rs))
          ∙ ap length (kept_map (f i) (around (W i) (f i p)) ms)
          ∙ length-map (filter (around (pulled.within i) p) ms) (f i)

      tuple_carry : (r : Rule P) → tuple above (up rs) (carry f r) ≡ tuple pulled rs r
      tuple_carry r = ap (λ h. line h 0 5) (fun_ext (λ i. levels i (r.at i)))

      population_carry : (t : List ℕ) → population above (up rs) t ≡ population pulled rs t
      population_carry t =
          ap length (kept_map (carry f) (λ r. equal t (tuple above (up rs) r)) rs)
          ∙ length-map (filter (λ r. equal t (tuple above (up rs) (carry f r))) rs) (carry f)
          ∙ ap (λ g. length (filter (λ r. equal t (g r)) rs)) (fun_ext tuple_carry)

      heads_carry : (g : ℕ) → heads above (up rs) g ≡ heads pulled rs g
      heads_carry g = ap₂ (λ c ts. chosen c g (once equal ts)) (fun_ext population_carry) (map-map (tuple above (up rs)) (carry f) rs ∙ ap (λ h. map h rs) (fun_ext tuple_carry))

      subset_carry : (g : ℕ) (r : Rule P) → subset above (up rs) g (carry f r) ≡ subset pulled rs g r
      subset_carry g r = ap₂ nearest_head (tuple_carry r) (heads_carry g)

      count_carry : (qs : List (Rule P)) → length (keys above (up qs)) ≡ length (keys pulled qs)
      count_carry qs = ap length (keys_moved (λ r. r.number) qs) ∙ length-map (keys pulled qs) (carry_key f 0 5)

      carried : Carried f pulled above rs
      carried =
          record {
            levels = levels;
            tuples = tuple_carry;
            heads = heads_carry;
            subset = subset_carry;
            keys = keys_moved (λ r. r.number);
            sorted = λ g t. sorted_image pulled above (carry f) (λ _. Unit) (subset pulled rs g) (subset above (up rs) g) (λ qs _. count_carry qs) (λ r _. subset_carry g r) t rs (everywhere _ (λ _. tt) rs);
          }

pub carries : {P Q : ℕ → Type 0} → Carries P Q
carries {P} {Q} N M f hw hn rs =
    subst₂ (λ (n : Nesting P) (m : Nesting Q). Carried f n m rs)
    (λ z. record { whole = N.whole; within = λ i a b. hn i a b z })
    (λ z. record { whole = λ i. sym (hw i) z; within = M.within })
    (carried f N.whole M.within rs)
