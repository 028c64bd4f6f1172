-- Rows of keys and entries that hang in buckets.
use Rattle.std.specs.Prelude.{ℕ, ◌+◌, ◌*◌, ◌/◌, ◌%◌, ◌^◌, ◌≤◌, Bool, List, length, fold, None, Option, slice_index_or}
use Rattle.std.specs.Option.{option_map}
use Rattle.keytables.specs.Keys.{numbers_of, same_key}
use Rattle.keytables.specs.Chains.{link_of, latest, Chained}
use Rattle.keytables.specs.declared.buckets.Row.{Row}
use Rattle.keytables.specs.declared.key.Key.{Key}

-- one more number mixed into a hash
unfoldable pub mixed : ℕ → ℕ → ℕ
mixed h x = (((h + x) % 2 ^ 64) * 0x9E37_79B9_7F4A_7C15) % 2 ^ 64

unfoldable pub bucket : Key → ℕ
bucket k = fold mixed 0 (numbers_of k) / 2 ^ 52

abbrev pub no_key : Key
no_key = record {
  subset = 0;
  labels = record {
    addresses = record { source = record { place = 0 }; destination = record { place = 0 } };
    ports = record { source = record { place = 0 }; destination = record { place = 0 } };
    protocol = record { place = 0 };
  };
}

abbrev pub no_row : Row
no_row = record { key = no_key; entry = 0; link = None }

-- a row with another entry
abbrev pub with_entry : Row → ℕ → Row
with_entry row e = record { key = row.key; entry = e; link = row.link }

abbrev pub has_key : List Row → Key → ℕ → Bool
has_key rows k i = same_key (slice_index_or rows i no_row).key k

-- the row of a key
unfoldable pub row_of : List Row → Key → Option ℕ
row_of rows k = latest (has_key rows k) (length rows)

-- what is stored under a key
unfoldable pub stored : List Row → Key → Option ℕ
stored rows k = option_map (λ i. (slice_index_or rows i no_row).entry) (row_of rows k)

abbrev pub chain_of : List Row → ℕ → ℕ
chain_of rows i = bucket (slice_index_or rows i no_row).key

pub record Sound (heads : List (Option ℕ)) (rows : List Row) : Type 0 where
  pub few : length rows ≤ 2048
  pub chained : Chained (chain_of rows) (λ b. link_of (slice_index_or heads b None)) (λ i. link_of (slice_index_or rows i no_row).link) (length rows)
