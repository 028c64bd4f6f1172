-- Which rules are taken into their subsets, and which go to the shelf.
use Rattle.std.specs.Prelude.{ℕ, ◌+◌, ◌-◌, cond, ◌&&◌, List, [], ◌∷◌, ◌++◌, length, fold, filter, nat_eq, nat_le}
use Rattle.groups.specs.Rules.{Nesting, Rule}
use Rattle.groups.specs.Tuples.{subset}
use Rattle.groups.specs.Keys.{keys}

-- all subsets together have at most so many keys
abbrev pub most_keys : ℕ
most_keys = 2048

-- the rules of subset s, where `sub` tells the subset of each
abbrev pub members : {P : ℕ → Type 0} → (Rule P → ℕ) → ℕ → List (Rule P) → List (Rule P)
members sub s rs = filter (λ r. nat_eq (sub r) s) rs

-- the rules taken so far, how many keys all subsets have, and the rules on the shelf
pub record Sorted (P : ℕ → Type 0) : Type 0 where
  pub taken : List (Rule P)
  pub total : ℕ
  pub shelf : List (Rule P)

module _ {P : ℕ → Type 0} (N : Nesting P) where
  -- by how much the keys of its subset grow with a rule
  abbrev pub growth : (Rule P → ℕ) → List (Rule P) → Rule P → ℕ
  growth sub taken r = length (keys N (members sub (sub r) taken ++ (r ∷ []))) - length (keys N (members sub (sub r) taken))

  -- one rule more: taken where its growth is at most t and all keys together are at most so many
  abbrev pub sort_rule : (Rule P → ℕ) → ℕ → Sorted P → Rule P → Sorted P
  sort_rule sub t s r =
      let more = growth sub s.taken r in
      cond (nat_le more t && nat_le (s.total + more) most_keys)
      (record { taken = s.taken ++ (r ∷ []); total = s.total + more; shelf = s.shelf })
      (record { taken = s.taken; total = s.total; shelf = s.shelf ++ (r ∷ []) })

  -- rules in ascending number, one after another, where `sub` tells the subset of each
  abbrev pub sorted_by : (Rule P → ℕ) → ℕ → List (Rule P) → Sorted P
  sorted_by sub t rs = fold (sort_rule sub t) (record { taken = []; total = 0; shelf = [] }) rs

  -- the standing rules, each with the subset that its tuple joins
  abbrev pub sorted : ℕ → ℕ → List (Rule P) → Sorted P
  sorted g t rs = sorted_by (subset N rs g) t rs

  -- the rules taken into subset s
  abbrev pub taken_into : ℕ → ℕ → List (Rule P) → ℕ → List (Rule P)
  taken_into g t rs s = members (subset N rs g) s (sorted g t rs).taken

  abbrev pub shelf : ℕ → ℕ → List (Rule P) → List (Rule P)
  shelf g t rs = (sorted g t rs).shelf
