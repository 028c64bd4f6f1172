-- What is looked up under the best labels of a header.
use Rattle.std.specs.Prelude.{ℕ, Bool, cond, Some, None, Option}
use Rattle.fields.specs.declared.numbers.Label.{Label}
use Rattle.fields.specs.declared.perfield.PerField.{PerField}
use Rattle.keytables.specs.declared.key.Key.{Key}

-- the label found, or that of the whole pattern
abbrev pub or_whole : Option Label → Label
or_whole (Some l) = l
or_whole None = record { place = 0 }

abbrev pub key_of : ℕ → PerField (Option Label) → Key
key_of s f = record {
  subset = s;
  labels = record {
    addresses = record { source = or_whole f.addresses.source; destination = or_whole f.addresses.destination };
    ports = record { source = or_whole f.ports.source; destination = or_whole f.ports.destination };
    protocol = or_whole f.protocol;
  };
}

-- what is under a key that the screen lets through
abbrev pub screened : (Key → Bool) → (Key → Option ℕ) → Key → Option ℕ
screened says map k = cond (says k) (map k) None
