-- Rules of one tuple: each key is the five patterns of a rule, and one more rule is one more key at most.
use Rattle.std.proofs.Common.{◌≡◌, ℕ, zero, suc, ◌+◌, ◌<◌, ◌≤◌, true, false, not, List, [], ◌∷◌, ◌++◌, map, length, sym, refl, ap, ◌∙◌, subst, inl, inr, arith}
use mathlib.Core.Path.{fun_ext}
use mathlib.Core.Bool.{false≢true}
use Rattle.std.specs.List.{AllByRecursion}
use Rattle.std.proofs.ByRecursion.{all_kept_by, kept_by_passes, All-map, All-weaker, All-push}
use Rattle.std.proofs.lemmas.Bool.{and_from, and_parts, or_cases, or_left, or_right, cases_eq}
use Rattle.fields.specs.Lists.{any}
use Rattle.levels.specs.Levels.{same}
use Rattle.groups.specs.Lists.{line, every}
use Rattle.groups.specs.Rules.{Nesting, Rule}
use Rattle.groups.specs.Tuples.{level_at, tuple}
use Rattle.groups.specs.Keys.{Combination, combine, combinations, along, used, lies, keys, same_key, pseudo}
use Rattle.groups.specs.Theorems.{Nests, Marks, OneTuple}
use Rattle.groups.proofs.Tests.{Found, all_found, all_with, all_once, any_out, any_on, any_weaker, any_append, any_kept, any_once, any_map}
use Rattle.groups.proofs.Apart.{Apart, apart_kept, apart_once, pigeons}
use Rattle.groups.proofs.Combinations.{Places, all_combinations, any_along, along_self, along_trans, apart_combinations}
use Rattle.groups.proofs.Levels.{levels_tell_lem}

-- lines that are the same are the same at each place
line_at : (f g : ℕ → ℕ) (n i j : ℕ) → line f i n ≡ line g i n → i ≤ j → j < i + n → f j ≡ g j
line_at f g zero i j e l m = absurd (omega arith)
line_at f g (suc n) i j e l m =
    let here : f i ≡ g i = cc in
    let rest : line f (suc i) n ≡ line g (suc i) n = cc in
    elim (cases_eq i j) [
      | inl d ↦ subst (λ m. f m ≡ g m) d here
      | inr d ↦ line_at f g n (suc i) j rest (omega arith) (omega arith)
    ]

module _ {P : ℕ → Type 0} (N : Nesting P) (L : Nests N) where
  pub same_itself : (i : ℕ) (x : P i) → same (N.within i) x x ≡ true
  same_itself i x = and_from _ _ (L.itself i x) (L.itself i x)

  same_trans : (i : ℕ) (x y z : P i) → same (N.within i) x y ≡ true → same (N.within i) y z ≡ true → same (N.within i) x z ≡ true
  same_trans i x y z h k =
      let a = and_parts (N.within i x y) _ h in
      let b = and_parts (N.within i y z) _ k in
      and_from _ _ (L.trans i x y z a.0 b.0) (L.trans i z y x b.1 a.1)

  pub same_like : (i : ℕ) (x y z : P i) → same (N.within i) x z ≡ true → same (N.within i) y z ≡ true → same (N.within i) x y ≡ true
  same_like i x y z h k =
      let b = and_parts (N.within i y z) _ k in
      same_trans i x z y h (and_from _ _ b.1 b.0)

  pub key_like : (k l m : Combination P 0 5) → same_key N k m ≡ true → same_key N l m ≡ true → same_key N k l ≡ true
  key_like k l m = along_trans (λ i. same (N.within i)) (λ i x y. same (N.within i) y x) (λ i. same (N.within i)) (λ i x y z a b. same_like i x z y a b) 5 0 k m l

  pub apart_keys : (rs : List (Rule P)) → Apart (same_key N) (keys N rs)
  apart_keys rs = apart_kept _ _ _ (apart_combinations (λ i. same (N.within i)) (λ i. used N i rs) (λ i. apart_once (same (N.within i)) _) 5 0)

  pub used_found : (rs : List (Rule P)) (q : Rule P) → Found rs q → (i : ℕ) → any (λ p. same (N.within i) p (q.at i)) (used N i rs) ≡ true
  used_found rs q f i =
      any_once (λ p. same (N.within i) p (q.at i)) (same (N.within i)) (λ x y. same_trans i x y (q.at i)) (map (λ r. r.at i) rs)
      (any_map (λ p. same (N.within i) p (q.at i)) (λ r. r.at i) rs ∙ f (λ r. same (N.within i) (r.at i) (q.at i)) (same_itself i (q.at i)))

  -- a rule's five patterns are a key
  rule_found : (rs : List (Rule P)) (q : Rule P) → Found rs q → any (λ l. same_key N l (combine q.at 0 5)) (keys N rs) ≡ true
  rule_found rs q f =
      let own_key : Combination P 0 5 = combine q.at 0 5 in
      let lie : (l : Combination P 0 5) → same_key N l own_key ≡ true → lies N l q ≡ true = λ l h. along_trans (λ i. same (N.within i)) N.within N.within (λ i x y z a b. L.trans i x y z (and_parts (N.within i x y) _ a).0 b) 5 0 l own_key own_key h (along_self N.within L.itself 5 0 own_key) in
      any_kept _ _ (λ l h. f (lies N l) (lie l h)) _ (any_along (λ i x y. same (N.within i) y x) (λ i. used N i rs) 5 0 own_key ∙ ap (λ t. every t 0 5) (fun_ext (used_found rs q f)))

  old_or_new : (rs : List (Rule P)) (r : Rule P) (k : Combination P 0 5) → any (λ q. same_key N k (combine q.at 0 5)) (rs ++ r ∷ []) ≡ true → any (same_key N k) (combine r.at 0 5 ∷ keys N rs) ≡ true
  old_or_new rs r k h =
      elim (or_cases _ _ (sym (any_append (λ q. same_key N k (combine q.at 0 5)) rs (r ∷ [])) ∙ h)) [
        | inl o ↦ or_right _ _ (any_out (Found rs) _ _ (λ q f e. any_weaker _ (same_key N k) (λ l g. key_like k l _ e g) (keys N rs) (rule_found rs q f)) rs (all_found rs) o)
        | inr n ↦ elim (or_cases _ _ n) [ inl e ↦ or_left _ _ e | inr e ↦ absurd (false≢true e) ]
      ]

  module _ (all rs : List (Rule P)) (r : Rule P) (m : AllByRecursion (Marks N all) rs) (e : AllByRecursion (λ q. tuple N all q ≡ tuple N all r) rs) where
    abbrev T : ℕ → ℕ
    T j = level_at N all j (r.at j)

    level_of : (q : Rule P) → tuple N all q ≡ tuple N all r → (j : ℕ) → j < 5 → level_at N all j (q.at j) ≡ T j
    level_of q h j l = line_at (λ i. level_at N all i (q.at i)) T 5 0 j h (omega arith) (omega arith)

    -- what lies within a rule and has its levels is the same
    own : (q : Rule P) → Marks N all q → ((j : ℕ) → j < 5 → level_at N all j (q.at j) ≡ T j) → (n i : ℕ) → i + n ≤ 5 → (k : Combination P i n) → Places (λ j p. level_at N all j p ≡ T j) i n k → along N.within i n k (combine q.at i n) ≡ true → along (λ j. same (N.within j)) i n k (combine q.at i n) ≡ true
    own q ms ls zero i b k f h = refl
    own q ms ls (suc n) i b k f h =
        let w = and_parts (N.within i k.0 (q.at i)) _ h in
        and_from _ _ (levels_tell_lem N L all i k.0 (q.at i) (ms i) w.0 (f.0 ∙ sym (ls i (omega arith)))) (own q ms ls n (suc i) (omega arith) k.1 f.1 w.1)

    -- each key is the five patterns of a rule
    rule_keys : AllByRecursion (λ k. any (λ q. same_key N k (combine q.at 0 5)) rs ≡ true) (keys N rs)
    rule_keys =
        let G : Rule P → Type 0 = λ q. Marks N all q × (tuple N all q ≡ tuple N all r) in
        let F : (j : ℕ) → P j → Type 0 = λ j p. level_at N all j p ≡ T j in
        let good : AllByRecursion G rs = all_with _ _ G (λ q a b. (a, b)) rs m e in
        let levels : AllByRecursion (Places F 0 5) (combinations (λ i. used N i rs) 0 5) = all_combinations F _ 5 0 (λ j l. all_once (F j) (same (N.within j)) _ (All-map (F j) (λ q. q.at j) rs (All-weaker _ (λ q. F j (q.at j)) (λ q h. level_of q h j (omega arith)) rs e))) in
        all_with (Places F 0 5) (λ k. any (lies N k) rs ≡ true) _ (λ k f h. any_on G _ _ (λ q g. own q g.0 (level_of q g.1) 5 0 (omega arith) k f) rs good h) (keys N rs)
        (all_kept_by _ (Places F 0 5) _ levels) (kept_by_passes (λ k. any (lies N k) rs) _)

  pub one_more : (all rs : List (Rule P)) (r : Rule P) → AllByRecursion (Marks N all) rs → Marks N all r → AllByRecursion (λ q. tuple N all q ≡ tuple N all r) rs → length (keys N (rs ++ r ∷ [])) ≤ length (keys N rs) + 1
  one_more all rs r ms m es =
      let more = rs ++ r ∷ [] in
      let old = combine r.at 0 5 ∷ keys N rs in
      let fits = pigeons (same_key N) key_like (keys N more) old (apart_keys more) (All-weaker _ (λ k. any (same_key N k) old ≡ true) (old_or_new rs r) _ (rule_keys all more r (All-push _ rs r ms m) (All-push _ rs r es refl))) in
      omega arith

pub one_tuple_lem : {P : ℕ → Type 0} → OneTuple P
one_tuple_lem N L all rs r m e = All-weaker _ (λ k. pseudo N rs k ≡ false) (λ k h. ap not h) _ (rule_keys N L all rs r m e)
