-- What the rows mean that C passes.
use Rattle.keytables.specs.declared.key.Key.{Key}
use Rattle.bench_exports.specs.declared.rows.KeyRow.{KeyRow}

-- the key of a row's subset and its five labels
abbrev pub key_of : KeyRow → Key
key_of r = record {
  subset = r.subset;
  labels = record {
    addresses = record { source = record { place = r.source }; destination = record { place = r.destination } };
    ports = record { source = record { place = r.source_port }; destination = record { place = r.destination_port } };
    protocol = record { place = r.protocol };
  };
}
