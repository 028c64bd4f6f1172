-- What the layout of a packet says of its bytes, once the packet passed its tests.
use Rattle.std.specs.Prelude.{◌≡◌, ℕ, ◌+◌, ◌≤◌, Bool, true, false, List, length}
use Rattle.packets.specs.Packets.{start, total, offset, protocol, has_ports, packet_shown, follows_at}
use Rattle.packets.specs.declared.packet.Follows.{Follows}
use Rattle.packets.specs.declared.packet.Follows.TheVariants.{Tcp, Udp, LaterFragment, Other}
use Rattle.packets.specs.declared.packet.Rest.{Rest}

abbrev pub with_ports : Follows → Bool
with_ports Tcp = true
with_ports Udp = true
with_ports LaterFragment = false
with_ports Other = false

pub record LaidOut (bs : List ℕ) (s t p : ℕ) (f : Follows) : Type 0 where
  pub header_fits : 20 ≤ length bs
  pub start_is : s ≡ start bs
  pub total_is : t ≡ total bs
  pub protocol_is : p ≡ protocol bs
  pub follows_is : f ≡ follows_at (offset bs) (protocol bs)
  pub begins : start bs ≤ total bs
  pub ends : total bs ≤ length bs
  pub ports_fit : has_ports bs ≡ true → start bs + 4 ≤ total bs

-- what follows the header is shown as it is in the packet
pub record RestOf (bs : List ℕ) (r : Rest) : Type 0 where
  pub follows : r.follows ≡ (packet_shown bs).follows
  pub part : r.part.now ≡ (packet_shown bs).part
  pub place : r.place ≡ (packet_shown bs).place
