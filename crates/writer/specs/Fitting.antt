-- The numbers of a row that have to fit the bits that its words give them.
use Rattle.std.specs.Prelude.{◌^◌, ◌<◌, ◌≤◌}
use Rattle.sheets.specs.declared.row.RuleRow.{RuleRow}

-- addresses need no bound on their numbers: two words have all 32 bits
pub record Fitting (r : RuleRow) : Type 0 where
  pub number : r.number ≤ 255
  pub source_length : r.addresses.source.length.bits ≤ 32
  pub destination_length : r.addresses.destination.length.bits ≤ 32
  pub source_port_length : r.ports.source.length.bits ≤ 32
  pub destination_port_length : r.ports.destination.length.bits ≤ 32
  pub protocol_length : r.protocol.length.bits ≤ 32
  pub source_port : r.ports.source.number < 2 ^ 16
  pub destination_port : r.ports.destination.number < 2 ^ 16
  pub protocol_number : r.protocol.number < 2 ^ 8
