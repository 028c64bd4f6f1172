-- Tuples counted from rule to rule, and the heads among them.
use Rattle.std.proofs.Common.{◌≡◌, ℕ, zero, suc, ◌+◌, ◌<◌, ◌≤◌, min, Bool, true, false, cond, List, [], ◌∷◌, ◌++◌, map, length, get_or, set, filter, sym, refl, ap, ◌∙◌, arith}
use Rattle.std.specs.List.{AllByRecursion}
use Rattle.std.proofs.lemmas.List.{length-map, map-id}
use Rattle.fields.specs.Lists.{once}
use Rattle.levels.proofs.Counts.{everywhere}
use Rattle.groups.specs.Lists.{chosen}
use Rattle.groups.specs.Rules.{Nesting, Rule}
use Rattle.groups.specs.Tuples.{equal, tuple, tuples, population, heads}
use Rattle.groups.proofs.Heads.{equal_is, equal_from}
use Rattle.heads.specs.Counts.{levels_of, population_in, Counts, heads_in}
use Rattle.heads.specs.declared.counted.Counted.{Counted}
use Rattle.heads.proofs.Counting.{once_few, raised, added}
use Rattle.heads.proofs.Picks.{all_alike, chosen_map, chosen_few}

abbrev pub levels_at : Counted → List ℕ
levels_at c = levels_of c.tuple

pub counts_none : Counts [] []
counts_none = record { tuples = refl; rules = refl }

-- one rule more has the tuple that is counted at place i; so few have it that its count does not saturate
pub counts_raised : (ts : List (List ℕ)) (t : List ℕ) (cs : List Counted) (i : ℕ) (c d : Counted) → length ts < 256 → Counts ts cs → i < length cs → equal t (levels_at d) ≡ true → d ≡ get_or cs i d → levels_at c ≡ levels_at d → c.rules ≡ min (d.rules + 1) 65535 → Counts (ts ++ t ∷ []) (set cs i c)
counts_raised ts t cs i c d few k l same at kept more =
    let r = raised equal equal_is equal_from ts t levels_at (λ c. c.rules) cs k.tuples k.rules i c d l same at kept (λ m. omega arith) in
    record { tuples = r.0; rules = r.1 }

-- it has a tuple that no rule had
pub counts_new : (ts : List (List ℕ)) (cs : List Counted) (c : Counted) → Counts ts cs → AllByRecursion (λ d. equal (levels_at c) (levels_at d) ≡ false) cs → c.rules ≡ 1 → Counts (ts ++ levels_at c ∷ []) (cs ++ c ∷ [])
counts_new ts cs c k none one =
    let r = added equal equal_is equal_from ts (levels_at c) levels_at (λ c. c.rules) cs k.tuples k.rules c none refl one in
    record { tuples = r.0; rules = r.1 }

-- no more tuples than rules
pub counts_few : (ts : List (List ℕ)) (cs : List Counted) → Counts ts cs → length cs ≤ length ts
counts_few ts cs k = omega (arith, length-map cs levels_at, ap length k.tuples, once_few equal ts)

pub heads_chosen : (ts : List (List ℕ)) (cs : List Counted) (g : ℕ) → Counts ts cs → map levels_at (chosen (λ c. c.rules) g cs) ≡ heads_in ts g
heads_chosen ts cs g k =
    chosen_map levels_at (population_in ts) (λ c. c.rules) g cs (all_alike levels_at (population_in ts) (λ c. c.rules) cs (k.rules ∙ ap (map (population_in ts)) (sym k.tuples)))
    ∙ ap (chosen (population_in ts) g) k.tuples

pub heads_few : (ts : List (List ℕ)) (g : ℕ) → length (heads_in ts g) ≤ g
heads_few ts g = chosen_few (population_in ts) g (once equal ts)

pub heads_some : (ts : List (List ℕ)) (g : ℕ) → 1 ≤ g → 1 ≤ length ts → 1 ≤ length (heads_in ts g)
heads_some ts zero l m = absurd (omega arith)
heads_some [] (suc g) l m = absurd (omega arith)
heads_some (t ∷ ts) (suc g) l m = omega arith

kept_map : {X Y : Type 0} (p : X → Bool) (f : Y → X) (ys : List Y) → length (filter p (map f ys)) ≡ length (filter (λ y. p (f y)) ys)
kept_map p f [] = refl
kept_map p f (y ∷ ys) = go (p (f y)) (kept_map p f ys)
  where
    go : (b : Bool) → length (filter p (map f ys)) ≡ length (filter (λ z. p (f z)) ys) → length (cond b (f y ∷ filter p (map f ys)) (filter p (map f ys))) ≡ length (cond b (y ∷ filter (λ z. p (f z)) ys) (filter (λ z. p (f z)) ys))
    go true ih = ap suc ih
    go false ih = ih

-- the heads among the tuples of some rules are those of the grouping
pub heads_are : {P : ℕ → Type 0} (N : Nesting P) (rs : List (Rule P)) (g : ℕ) → heads_in (map (tuple N rs) rs) g ≡ heads N rs g
heads_are N rs g =
    let ts = map (tuple N rs) rs in
    let same = chosen_map (λ t. t) (population N rs) (population_in ts) g (tuples N rs) (everywhere _ (λ t. kept_map (equal t) (tuple N rs) rs) (tuples N rs)) in
    sym (map-id (heads_in ts g)) ∙ same ∙ ap (chosen (population N rs) g) (map-id (tuples N rs))
