-- The heads of some rules, from the list of their tuples alone.
use Rattle.std.proofs.Common.{◌≡◌, ℕ, List, map, length, filter, sym, ap, ◌∙◌}
use mathlib.Core.Path.{fun_ext}
use Rattle.std.proofs.lemmas.List.{length-map}
use Rattle.fields.specs.Lists.{once}
use Rattle.groups.specs.Lists.{chosen}
use Rattle.groups.specs.Rules.{Nesting, Rule}
use Rattle.groups.specs.Tuples.{equal, tuple, tuples, heads}
use Rattle.groups.proofs.Carry.{kept_map}

pub heads_by_tuples : {P : ℕ → Type 0} (N : Nesting P) (rs : List (Rule P)) (g : ℕ) → heads N rs g ≡ chosen (λ t. length (filter (equal t) (map (tuple N rs) rs))) g (once equal (map (tuple N rs) rs))
heads_by_tuples N rs g =
    ap (λ c. chosen c g (tuples N rs)) (fun_ext (λ t. sym (ap length (kept_map (tuple N rs) (equal t) rs) ∙ length-map (filter (λ r. equal t (tuple N rs r)) rs) (tuple N rs))))
