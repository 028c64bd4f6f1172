-- The format of a header block, and what any bytes are read as, taken for one.
use Rattle.std.specs.Prelude.{ℕ, ◌+◌, ◌*◌, ◌/◌, ◌%◌, Bool, not, ◌||◌, List, [], ◌∷◌, ◌++◌, map, length, drop, Some, None, Option, ◌==◌, nat_lt}
use Rattle.std.specs.List.{range_with_len, flat_map}
use Rattle.fields.specs.Refusals.{first}
use Rattle.fields.specs.Lists.{any}
use Rattle.octets.specs.Numbers.{byte, two, four}
use Rattle.packets.specs.declared.header.Header.{Header}

-- ---- the format: both addresses, both ports, source first, the protocol, three bytes 0; the highest byte first
abbrev pub two_bytes : ℕ → List ℕ
two_bytes n = n / 256 ∷ n % 256 ∷ []

abbrev pub four_bytes : ℕ → List ℕ
four_bytes n = two_bytes (n / 65536) ++ two_bytes (n % 65536)

abbrev pub header_bytes : Header → List ℕ
header_bytes h =
    four_bytes h.addresses.source ++ (four_bytes h.addresses.destination ++
    (two_bytes h.ports.source ++ (two_bytes h.ports.destination ++ (h.protocol ∷ 0 ∷ 0 ∷ 0 ∷ []))))

abbrev pub block_bytes : List Header → List ℕ
block_bytes hs = flat_map header_bytes hs

-- ---- reading
module _ (bs : List ℕ) where
  abbrev pub header_at : ℕ → Header
  header_at i = record {
    addresses = record { source = four bs i; destination = four bs (i + 4) };
    ports = record { source = two bs (i + 8); destination = two bs (i + 10) };
    protocol = byte bs (i + 12);
  }

  -- one of the last bytes of the header from place i on is not 0
  abbrev pub spoiled : ℕ → Bool
  spoiled i = not (byte bs (i + 13) == 0) || (not (byte bs (i + 14) == 0) || not (byte bs (i + 15) == 0))

  -- the places where a header begins
  abbrev pub starts : List ℕ
  starts = map (λ k. 16 * k) (range_with_len 0 (length bs / 16))

  abbrev pub headers_in : List Header
  headers_in = map header_at starts

  abbrev pub read_refusal : ℕ → Option ℕ
  read_refusal places = first (
      record { fails = not (length bs % 16 == 0) || any spoiled starts; refuses = 23 } ∷
      record { fails = nat_lt places (length bs / 16); refuses = 9 } ∷ [])

-- what the list holds after a read
abbrev pub listed : Option ℕ → List ℕ → List Header → List Header
listed (Some n) bs list = list
listed None bs list = headers_in bs ++ drop (length bs / 16) list

-- ---- writing, to `places` bytes
abbrev pub write_refusal : ℕ → ℕ → Option ℕ
write_refusal count places = first (record { fails = nat_lt places (16 * count); refuses = 9 } ∷ [])

-- what the output holds after a write
abbrev pub written : Option ℕ → List Header → List ℕ → List ℕ
written (Some n) hs out = out
written None hs out = block_bytes hs ++ drop (16 * length hs) out
