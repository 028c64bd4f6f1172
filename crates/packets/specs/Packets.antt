-- What any bytes are read as, taken for an IPv4 packet (RFC 791).
use Rattle.std.specs.Prelude.{ℕ, ◌+◌, ◌-◌, ◌*◌, ◌/◌, ◌%◌, ◌^◌, Bool, cond, not, ◌&&◌, ◌||◌, List, [], ◌∷◌, length, take, drop, Option, ◌==◌, nat_lt}
use Rattle.fields.specs.Refusals.{first}
use Rattle.octets.specs.Numbers.{byte, two, four}
use Rattle.packets.specs.declared.header.Header.{Header}
use Rattle.packets.specs.declared.packet.Packet.{Packet}
use Rattle.packets.specs.declared.packet.Follows.{Follows}
use Rattle.packets.specs.declared.packet.Follows.TheVariants.{Tcp, Udp, LaterFragment, Other}

module _ (bs : List ℕ) where
  abbrev pub version : ℕ
  version = byte bs 0 / 16

  -- the header's length, in words of four bytes
  abbrev pub words : ℕ
  words = byte bs 0 % 16

  -- where the header ends
  abbrev pub start : ℕ
  start = 4 * words

  abbrev pub total : ℕ
  total = two bs 2

  abbrev pub offset : ℕ
  offset = two bs 6 % 2 ^ 13

  abbrev pub protocol : ℕ
  protocol = byte bs 9

  -- TCP or UDP at fragment offset 0: the ports follow the header
  abbrev pub has_ports : Bool
  has_ports = offset == 0 && (protocol == 6 || protocol == 17)

  abbrev pub packet_refusal : Option ℕ
  packet_refusal = first (
      record { fails = nat_lt (length bs) 20; refuses = 16 } ∷
      record { fails = not (version == 4); refuses = 17 } ∷
      record { fails = nat_lt words 5; refuses = 18 } ∷
      record { fails = nat_lt total start || nat_lt (length bs) total; refuses = 19 } ∷
      record { fails = has_ports && nat_lt (total - start) 4; refuses = 20 } ∷ [])

  -- a packet without readable ports has both ports 0
  abbrev pub header : Header
  header = record {
    addresses = record { source = four bs 12; destination = four bs 16 };
    ports = record { source = cond has_ports (two bs start) 0; destination = cond has_ports (two bs (start + 2)) 0 };
    protocol = protocol;
  }

-- what follows the header, by the fragment offset and the protocol
abbrev pub follows_at : ℕ → ℕ → Follows
follows_at offset protocol = cond (offset == 0) (cond (protocol == 6) Tcp (cond (protocol == 17) Udp Other)) LaterFragment

-- a packet as it is shown: its header, what follows, the bytes that do, and their place
pub record Shown : Type 0 where
  pub header : Header
  pub follows : Follows
  pub part : List ℕ
  pub place : ℕ

abbrev pub packet_shown : List ℕ → Shown
packet_shown bs = record {
  header = header bs;
  follows = follows_at (offset bs) (protocol bs);
  part = take (total bs - start bs) (drop (start bs) bs);
  place = start bs;
}

-- the same of a packet that was read
abbrev pub shown : Packet → Shown
shown p = record { header = p.header; follows = p.rest.follows; part = p.rest.part.now; place = p.rest.place }
