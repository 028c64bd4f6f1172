-- Two are the same where the same stands at each place.
use Rattle.std.proofs.Common.{◌≡◌}
use Rattle.fields.specs.declared.perfield.PerField.{PerField}

pub by_place : {X : Type 0} (f g : PerField X) → f.addresses.source ≡ g.addresses.source → f.addresses.destination ≡ g.addresses.destination → f.ports.source ≡ g.ports.source → f.ports.destination ≡ g.ports.destination → f.protocol ≡ g.protocol → f ≡ g
by_place f g a b c d e i = record { addresses = record { source = a i; destination = b i }; ports = record { source = c i; destination = d i }; protocol = e i }
