-- Keys, and what is stored under them.
use Rattle.std.specs.Prelude.{ℕ, suc, Bool, cond, ◌&&◌, ◌||◌, List, [], ◌∷◌, is_some, Some, Option, ◌==◌, nat_lt}
use Rattle.keytables.specs.declared.key.Key.{Key}
use Rattle.fields.specs.declared.numbers.Label.{Label}
use Rattle.fields.specs.declared.perfield.PerField.{PerField}

-- the subset of a key, and the place of its label in each field
unfoldable pub numbers_of : Key → List ℕ
numbers_of k =
    let l = k.labels in
    k.subset ∷ l.addresses.source.place ∷ l.addresses.destination.place ∷ l.ports.source.place ∷ l.ports.destination.place ∷ l.protocol.place ∷ []

-- two keys are the same: one subset, and the same label in every field
abbrev pub same_labels : PerField Label → PerField Label → Bool
same_labels a b =
    (a.addresses.source.place == b.addresses.source.place) && (a.addresses.destination.place == b.addresses.destination.place
    && (a.ports.source.place == b.ports.source.place && (a.ports.destination.place == b.ports.destination.place
    && a.protocol.place == b.protocol.place)))

abbrev pub same_key : Key → Key → Bool
same_key a b = a.subset == b.subset && same_labels a.labels b.labels

-- put stores under a key that is there, or where there is room for one more
abbrev pub stores : Option ℕ → ℕ → ℕ → Bool
stores found count room = is_some found || nat_lt count room

-- what is stored under the key q after an entry was put under k
abbrev pub put_at : Bool → (Key → Option ℕ) → Key → ℕ → Key → Option ℕ
put_at stored map k e q = cond (stored && same_key q k) (Some e) (map q)

-- how many keys there are then
abbrev pub put_count : Option ℕ → ℕ → ℕ → ℕ
put_count found count room = cond (is_some found) count (cond (nat_lt count room) (suc count) count)
