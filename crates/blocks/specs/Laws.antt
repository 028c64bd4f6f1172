-- The round trips of header blocks.
use Rattle.std.specs.Prelude.{◌≡◌, ℕ, ◌^◌, ◌<◌, ◌≤◌, List, length, None}
use Rattle.std.specs.List.{AllByRecursion}
use Rattle.packets.specs.declared.header.Header.{Header}
use Rattle.blocks.specs.Blocks.{block_bytes, headers_in, read_refusal}

-- numbers that a header can have
pub record Fit (h : Header) : Type 0 where
  pub source : h.addresses.source < 2 ^ 32
  pub destination : h.addresses.destination < 2 ^ 32
  pub source_port : h.ports.source < 2 ^ 16
  pub destination_port : h.ports.destination < 2 ^ 16
  pub protocol : h.protocol < 2 ^ 8

-- a written block is read as the same headers
pub record ReadsBack (hs : List Header) (places : ℕ) : Type 0 where
  pub accepted : read_refusal (block_bytes hs) places ≡ None
  pub same : headers_in (block_bytes hs) ≡ hs

abbrev pub WrittenIsRead : Type 0
WrittenIsRead = (hs : List Header) (places : ℕ) → AllByRecursion Fit hs → length hs ≤ places → ReadsBack hs places

-- an accepted block, written again, has the same bytes
abbrev pub ReadIsWritten : Type 0
ReadIsWritten = (bs : List ℕ) (places : ℕ) → AllByRecursion (λ b. b < 256) bs → read_refusal bs places ≡ None → block_bytes (headers_in bs) ≡ bs
