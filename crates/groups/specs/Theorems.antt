-- What holds of the grouping, over all rules and patterns that nest.
use Rattle.std.specs.Prelude.{◌≡◌, ℕ, zero, suc, ◌≤◌, Bool, true, false, ◌||◌, List, [], map, length, filter}
use Rattle.std.specs.List.{range_with_len, flat_map, AllByRecursion}
use Rattle.fields.specs.Lists.{any}
use Rattle.levels.specs.Levels.{same, marked}
use Rattle.groups.specs.Rules.{Nesting, Rule}
use Rattle.groups.specs.Tuples.{level_at, tuple, tuples, heads, subset}
use Rattle.groups.specs.Keys.{Combination, used, lies, keys, pseudo}
use Rattle.groups.specs.Taking.{Sorted, sorted, taken_into, shelf}
use Rattle.groups.specs.Visits.{visits}
use Rattle.groups.specs.Headers.{meets, key, hit}

-- lying within is reflexive and transitive at each place
pub record Nests {P : ℕ → Type 0} (N : Nesting P) : Type 0 where
  pub itself : (i : ℕ) (a : P i) → N.within i a a ≡ true
  pub trans : (i : ℕ) (a b c : P i) → N.within i a b ≡ true → N.within i b c ≡ true → N.within i a c ≡ true

-- each pattern of the rule is marked in the field of the rules rs
abbrev pub Marks : {P : ℕ → Type 0} → Nesting P → List (Rule P) → Rule P → Type 0
Marks N rs r = (i : ℕ) → any (same (N.within i) (r.at i)) (marked (N.within i) (N.whole i) (map (λ q. q.at i) rs)) ≡ true

-- a pattern that lies within a marked one of its own level is the same
abbrev pub LevelsTell : (ℕ → Type 0) → Type 0
LevelsTell P =
    (N : Nesting P) → Nests N → (rs : List (Rule P)) (i : ℕ) (a b : P i) →
    any (same (N.within i) b) (marked (N.within i) (N.whole i) (map (λ q. q.at i) rs)) ≡ true →
    N.within i a b ≡ true → level_at N rs i a ≡ level_at N rs i b → same (N.within i) a b ≡ true

-- rules of one tuple have no pseudo-rule
abbrev pub OneTuple : (ℕ → Type 0) → Type 0
OneTuple P =
    (N : Nesting P) → Nests N → (all rs : List (Rule P)) (r : Rule P) → AllByRecursion (Marks N all) rs → AllByRecursion (λ q. tuple N all q ≡ tuple N all r) rs →
    AllByRecursion (λ k. pseudo N rs k ≡ false) (keys N rs)

-- where the tuples are no more than the subset limit, the shelf is empty and no key is a pseudo-rule
pub record Exact {P : ℕ → Type 0} (N : Nesting P) (g t : ℕ) (rs : List (Rule P)) : Type 0 where
  pub no_shelf : shelf N g t rs ≡ []
  pub no_pseudo : (s : ℕ) → AllByRecursion (λ k. pseudo N (taken_into N g t rs s) k ≡ false) (keys N (taken_into N g t rs s))

abbrev pub EnoughSubsets : (ℕ → Type 0) → Type 0
EnoughSubsets P =
    (N : Nesting P) → Nests N → (g t : ℕ) (rs : List (Rule P)) → length (tuples N rs) ≤ g → 1 ≤ t → length rs ≤ 256 → Exact N g t rs

-- what matches goes with what lies within, and of two patterns that match one lies within the other
pub record Fits {P V : ℕ → Type 0} (N : Nesting P) (matches : (i : ℕ) → P i → V i → Bool) : Type 0 where
  pub wider : (i : ℕ) (a b : P i) (x : V i) → N.within i a b ≡ true → matches i a x ≡ true → matches i b x ≡ true
  pub nested : (i : ℕ) (a b : P i) (x : V i) → matches i a x ≡ true → matches i b x ≡ true → (N.within i a b || N.within i b a) ≡ true

-- of a header: a rule of the subset matches exactly if the subset's key lies within it; the subset has one key at most, and is a hit exactly if
-- one of its rules matches
pub record Tells {P V : ℕ → Type 0} (N : Nesting P) (matches : (i : ℕ) → P i → V i → Bool) (v : (i : ℕ) → V i) (rs : List (Rule P)) : Type 0 where
  pub each : AllByRecursion (λ r. meets N matches v r ≡ any (λ k. lies N k r) (key N matches v rs)) rs
  pub one : length (key N matches v rs) ≤ 1
  pub hits : hit N matches v rs ≡ any (meets N matches v) rs

abbrev pub KeyTells : (ℕ → Type 0) → (ℕ → Type 0) → Type 0
KeyTells P V =
    (N : Nesting P) → Nests N → (matches : (i : ℕ) → P i → V i → Bool) → Fits N matches → (v : (i : ℕ) → V i) (rs : List (Rule P)) → Tells N matches v rs

-- all keys together are those of the subsets
abbrev pub TotalCounts : (ℕ → Type 0) → Type 0
TotalCounts P =
    (N : Nesting P) → Nests N → (g t : ℕ) (rs : List (Rule P)) → 1 ≤ g →
    (sorted N g t rs).total ≡ length (flat_map (λ s. keys N (taken_into N g t rs s)) (range_with_len 0 (length (heads N rs g))))

-- place by place, the keys of some rules are met in their order, each with the rules that it lies within
pub record Visited {P : ℕ → Type 0} (N : Nesting P) (rs : List (Rule P)) : Type 0 where
  pub keys : map (λ v. v.0) (visits N (λ i. used N i rs) 0 5 rs) ≡ keys N rs
  pub rules : AllByRecursion (λ v. v.1 ≡ filter (lies N v.0) rs) (visits N (λ i. used N i rs) 0 5 rs)

abbrev pub PlaceByPlace : (ℕ → Type 0) → Type 0
PlaceByPlace P = (N : Nesting P) (rs : List (Rule P)) → Visited N rs

-- ---- patterns of another type that nest alike
module _ {P Q : ℕ → Type 0} (f : (i : ℕ) → P i → Q i) where
  abbrev pub carry : Rule P → Rule Q
  carry r = record { number = r.number; at = λ i. f i (r.at i) }

  abbrev pub carry_key : (i n : ℕ) → Combination P i n → Combination Q i n
  carry_key i zero k = tt
  carry_key i (suc n) k = (f i k.0, carry_key (suc i) n k.1)

  abbrev pub carry_sorted : Sorted P → Sorted Q
  carry_sorted s = record { taken = map carry s.taken; total = s.total; shelf = map carry s.shelf }

  -- what is worked out of the carried rules is what is worked out of the rules, carried
  pub record Carried (N : Nesting P) (M : Nesting Q) (rs : List (Rule P)) : Type 0 where
    pub levels : (i : ℕ) (p : P i) → level_at M (map carry rs) i (f i p) ≡ level_at N rs i p
    pub tuples : (r : Rule P) → tuple M (map carry rs) (carry r) ≡ tuple N rs r
    pub heads : (g : ℕ) → heads M (map carry rs) g ≡ heads N rs g
    pub subset : (g : ℕ) (r : Rule P) → subset M (map carry rs) g (carry r) ≡ subset N rs g r
    pub keys : (qs : List (Rule P)) → keys M (map carry qs) ≡ map (carry_key 0 5) (keys N qs)
    pub sorted : (g t : ℕ) → sorted M g t (map carry rs) ≡ carry_sorted (sorted N g t rs)

abbrev pub Carries : (ℕ → Type 0) → (ℕ → Type 0) → Type 0
Carries P Q =
    (N : Nesting P) (M : Nesting Q) (f : (i : ℕ) → P i → Q i) → ((i : ℕ) → M.whole i ≡ f i (N.whole i)) →
    ((i : ℕ) (a b : P i) → M.within i (f i a) (f i b) ≡ N.within i a b) → (rs : List (Rule P)) → Carried f N M rs

-- five types, one to a place
abbrev pub OfFive : Type 0 → Type 0 → Type 0 → Type 0 → Type 0 → ℕ → Type 0
OfFive A B C D E zero = A
OfFive A B C D E (suc zero) = B
OfFive A B C D E (suc (suc zero)) = C
OfFive A B C D E (suc (suc (suc zero))) = D
OfFive A B C D E (suc (suc (suc (suc zero)))) = E
OfFive A B C D E (suc (suc (suc (suc (suc i))))) = Unit {0}
