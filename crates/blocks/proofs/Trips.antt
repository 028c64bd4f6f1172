-- Blocks that are written and read again, and read and written again.
use Rattle.std.proofs.Common.{◌≡◌, ℕ, zero, suc, ◌+◌, ◌*◌, ◌/◌, ◌%◌, ◌<◌, ◌≤◌, Bool, true, false, cond, List, [], ◌∷◌, ◌++◌, map, length, take, drop, Some, None, Option, sym, refl, ap, ◌∙◌, ap₂, arith}
use Rattle.std.specs.List.{AllByRecursion}
use Rattle.std.proofs.ByRecursion.{All-drop, All-take}
use Rattle.std.proofs.lemmas.List.{length-drop, length-take-le, drop_all, take-append-drop}
use Rattle.std.proofs.lemmas.Bool.Decides.{nat_tests}
use Rattle.std.proofs.lemmas.Bool.{or_parts, or_from, not-false, eqb-true}
use Rattle.fields.specs.Lists.{any}
use Rattle.packets.specs.declared.header.Header.{Header}
use Rattle.blocks.specs.Blocks.{header_bytes, block_bytes, header_at, spoiled, starts, read_refusal}
use Rattle.blocks.specs.Laws.{WrittenIsRead, ReadIsWritten}
use Rattle.blocks.proofs.Headers.{starts_from, length_block, on_drop, header_from, spoiled_from, header_back, header_again}

-- ---- bytes that from header k on are those of some headers
module _ (bs : List ℕ) where
  next : (h : Header) (hs : List Header) (k : ℕ) → drop (16 * k) bs ≡ block_bytes (h ∷ hs) → drop (16 * (k + 1)) bs ≡ block_bytes hs
  next h hs k e = on_drop bs k ∙ ap (drop 16) e

  same_from : (hs : List Header) (k : ℕ) → drop (16 * k) bs ≡ block_bytes hs → map (header_at bs) (starts_from k (length hs)) ≡ hs
  same_from [] k e = refl
  same_from (h ∷ hs) k e =
      ap₂ ◌∷◌ (header_from bs (16 * k) ∙ (ap (λ xs. header_at (take 16 xs) 0) e ∙ header_back h)) (same_from hs (k + 1) (next h hs k e))

  clean_from : (hs : List Header) (k : ℕ) → drop (16 * k) bs ≡ block_bytes hs → any (spoiled bs) (starts_from k (length hs)) ≡ false
  clean_from [] k e = refl
  clean_from (h ∷ hs) k e =
      or_from (spoiled bs (16 * k)) _ (spoiled_from bs (16 * k) ∙ ap (λ xs. spoiled (take 16 xs) 0) e) (clean_from hs (k + 1) (next h hs k e))

-- bytes that pass the tests are read
pub accepted : (bs : List ℕ) (places : ℕ) → length bs % 16 ≡ 0 → any (spoiled bs) (starts bs) ≡ false → length bs / 16 ≤ places → read_refusal bs places ≡ None
accepted bs places whole clean room = grind (arith, nat_tests)

pub written_is_read_lem : WrittenIsRead
written_is_read_lem hs places fit room =
    let bs = block_bytes hs in
    let l = length_block hs in
    let n : length bs / 16 ≡ length hs = omega arith in
    record {
      accepted = accepted bs places (omega arith) (ap (λ m. any (spoiled bs) (starts_from 0 m)) n ∙ clean_from bs hs 0 refl) (omega arith);
      same = ap (λ m. map (header_at bs) (starts_from 0 m)) n ∙ same_from bs hs 0 refl;
    }

-- ---- bytes that pass the tests
passed : (b : Bool) (n : ℕ) (o : Option ℕ) → cond b (Some n) o ≡ None → b ≡ false
passed true n o e = let z : ◌≡◌ {A = ℕ} 0 1 = cc in absurd (omega arith)
passed false n o e = refl

module _ (bs : List ℕ) (small : AllByRecursion (λ b. b < 256) bs) where
  bytes_from : (n k : ℕ) → 16 * (k + n) ≡ length bs → any (spoiled bs) (starts_from k n) ≡ false → block_bytes (map (header_at bs) (starts_from k n)) ≡ drop (16 * k) bs
  bytes_from zero k e clean = sym (drop_all (16 * k) bs (omega arith))
  bytes_from (suc n) k e clean =
      let p = or_parts (spoiled bs (16 * k)) _ clean in
      let rest = drop (16 * k) bs in
      let long = length-take-le 16 rest (omega (arith, length-drop (16 * k) bs)) in
      let again = header_again (take 16 rest) long (All-take _ 16 rest (All-drop _ (16 * k) bs small)) (sym (spoiled_from bs (16 * k)) ∙ p.0) in
      ap₂ ◌++◌ (ap header_bytes (header_from bs (16 * k)) ∙ again) (bytes_from n (k + 1) (omega arith) p.1 ∙ on_drop bs k) ∙ take-append-drop 16 rest

pub read_is_written_lem : ReadIsWritten
read_is_written_lem bs places small h =
    let p = or_parts _ _ (passed _ _ _ h) in
    let whole = eqb-true (length bs % 16) 0 (not-false _ p.0) in
    bytes_from bs small (length bs / 16) 0 (omega arith) p.1
