-- The five fields by their places: 0 the source address, 1 the destination address, 2 the source port, 3 the destination port, 4 the protocol.
-- There are no further places; what is said of one is said of the last.
use Rattle.std.specs.Prelude.{ℕ, zero, suc, List, [], ◌∷◌, Some, None, Option}
use Rattle.fields.specs.declared.perfield.PerField.{PerField}
use Rattle.fields.specs.declared.place.Place.{Place}
use Rattle.fields.specs.declared.place.Place.TheVariants.{SourceAddress, DestinationAddress, SourcePort, DestinationPort, Protocol}

abbrev pub index : Place → ℕ
index SourceAddress = 0
index DestinationAddress = 1
index SourcePort = 2
index DestinationPort = 3
index Protocol = 4

-- how many places come before this one; before none, all five
abbrev pub depth : Option Place → ℕ
depth (Some p) = index p
depth None = 5

module _ {X : Type 0} where
  -- what stands at a place
  abbrev pub at : PerField X → ℕ → X
  at f zero = f.addresses.source
  at f (suc zero) = f.addresses.destination
  at f (suc (suc zero)) = f.ports.source
  at f (suc (suc (suc zero))) = f.ports.destination
  at f (suc (suc (suc (suc i)))) = f.protocol

  -- what stands at the five places, in their order
  abbrev pub listed : PerField X → List X
  listed f = at f 0 ∷ at f 1 ∷ at f 2 ∷ at f 3 ∷ at f 4 ∷ []

  -- the same with x at a place
  abbrev pub put : PerField X → ℕ → X → PerField X
  put f zero x = record { addresses = record { source = x; destination = f.addresses.destination }; ports = f.ports; protocol = f.protocol }
  put f (suc zero) x = record { addresses = record { source = f.addresses.source; destination = x }; ports = f.ports; protocol = f.protocol }
  put f (suc (suc zero)) x = record { addresses = f.addresses; ports = record { source = x; destination = f.ports.destination }; protocol = f.protocol }
  put f (suc (suc (suc zero))) x = record { addresses = f.addresses; ports = record { source = f.ports.source; destination = x }; protocol = f.protocol }
  put f (suc (suc (suc (suc i)))) x = record { addresses = f.addresses; ports = f.ports; protocol = x }
