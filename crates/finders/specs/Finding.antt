-- What a finder holds, and what its answers mean. A finder means a list of distinct patterns; a label is a place in it, from 0.
use Rattle.std.specs.Prelude.{ℕ, cond, not, ◌&&◌, ◌||◌, List, [], ◌∷◌, ◌++◌, length, is_some, Some, None, Option, nat_lt, position}
use Rattle.std.specs.Option.{option_map}
use Rattle.std.specs.List.{slice_get}
use Rattle.fields.specs.Lists.{all}
use Rattle.fields.specs.Nest.{Nest}
use Rattle.levels.specs.Levels.{same, around}
use Rattle.fields.specs.declared.numbers.Label.{Label}

-- the place that a label is
abbrev pub label_place : Option Label → Option ℕ
label_place o = option_map (λ l. l.place) o

module _ {P V : Type 0} (N : Nest P V) (held : List P) where
  -- the label of a pattern that is held
  abbrev pub known : P → Option ℕ
  known p = position (same N.within p) held

  -- take: the label of a pattern, which is the next one if it is new, or none where it is new and there is no room for it
  abbrev pub take_label : ℕ → P → Option ℕ
  take_label room p = cond (is_some (known p)) (known p) (cond (nat_lt (length held) room) (Some (length held)) None)

  -- what is held then
  abbrev pub take_held : ℕ → P → List P
  take_held room p = cond (is_some (known p)) held (cond (nat_lt (length held) room) (held ++ (p ∷ [])) held)

  -- best: the label of the pattern that matches v and lies within all others that match
  abbrev pub best_label : V → Option ℕ
  best_label v = position (λ p. N.matches p v && all (λ q. not (N.matches q v) || N.within p q) held) held

  -- the label of the nearest other pattern around p
  abbrev pub around_label : P → Option ℕ
  around_label p = position (λ q. around N.within p q && all (λ o. not (around N.within p o) || N.within q o) held) held

  -- parent: the same of the pattern that a label stands for; a label that is not held has none
  abbrev pub parent_of : Option P → Option ℕ
  parent_of (Some p) = around_label p
  parent_of None = None

  abbrev pub parent_label : ℕ → Option ℕ
  parent_label l = parent_of (slice_get held l)
