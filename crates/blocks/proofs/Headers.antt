-- Headers, their bytes, and the numbers in them.
use Rattle.std.proofs.Common.{◌≡◌, ℕ, zero, suc, ◌+◌, ◌*◌, ◌/◌, ◌%◌, ◌<◌, false, not, ◌||◌, eqb, List, [], ◌∷◌, ◌++◌, map, length, take, drop, sym, refl, ap, ◌∙◌, ap₂, add-zero, arith}
use Rattle.std.specs.List.{range_with_len, list_any, AllByRecursion}
use Rattle.std.specs.Simd.{first_chunks}
use Rattle.std.proofs.lemmas.List.FromFn.{fill_by_all}
use Rattle.std.proofs.ByRecursion.{All-get_or}
use Rattle.std.proofs.lemmas.List.{length-append, drop-drop, get_or-take, get_or-drop}
use Rattle.std.proofs.lemmas.Bool.{or_parts, not-false, eqb-true}
use Rattle.fields.specs.Lists.{any}
use Rattle.octets.specs.Numbers.{byte, two, four}
use Rattle.packets.specs.declared.header.Header.{Header}
use Rattle.blocks.specs.Blocks.{two_bytes, four_bytes, header_bytes, block_bytes, header_at, headers_in, spoiled, starts}

-- the places of n headers from header k on
abbrev pub starts_from : ℕ → ℕ → List ℕ
starts_from k n = map (λ j. 16 * j) (range_with_len k n)

-- the sixteen bytes from a place on
abbrev pub chunk : List ℕ → ℕ → List ℕ
chunk bs i = take 16 (drop i bs)

pub length_block : (hs : List Header) → length (block_bytes hs) ≡ 16 * length hs
length_block [] = refl
length_block (h ∷ hs) = omega (arith, length-append (header_bytes h) (block_bytes hs), length_block hs)

pub on_drop : (bs : List ℕ) (k : ℕ) → drop (16 * (k + 1)) bs ≡ drop 16 (drop (16 * k) bs)
on_drop bs k = let e : 16 * (k + 1) ≡ 16 * k + 16 = omega arith in ap (λ i. drop i bs) e ∙ sym (drop-drop 16 (16 * k) bs)

-- ---- what is read from a place on
module _ (bs : List ℕ) (i : ℕ) where
  byte_from : (j k : ℕ) → i + j ≡ k → j < 16 → byte bs k ≡ byte (chunk bs i) j
  byte_from j k e l = ap (byte bs) (sym e) ∙ (sym (get_or-drop i bs j 0) ∙ sym (get_or-take 16 (drop i bs) j 0 l))

  two_from : (j k : ℕ) → i + j ≡ k → j < 15 → two bs k ≡ two (chunk bs i) j
  two_from j k e l = ap₂ (λ a b. a * 256 + b) (byte_from j k e (omega arith)) (byte_from (j + 1) (k + 1) (omega arith) (omega arith))

  four_from : (j k : ℕ) → i + j ≡ k → j < 13 → four bs k ≡ four (chunk bs i) j
  four_from j k e l = ap₂ (λ a b. a * 65536 + b) (two_from j k e (omega arith)) (two_from (j + 2) (k + 2) (omega arith) (omega arith))

  pub header_from : header_at bs i ≡ header_at (chunk bs i) 0
  header_from = λ t. record {
    addresses = record { source = four_from 0 i (add-zero i) (omega arith) t; destination = four_from 4 (i + 4) refl (omega arith) t };
    ports = record { source = two_from 8 (i + 8) refl (omega arith) t; destination = two_from 10 (i + 10) refl (omega arith) t };
    protocol = byte_from 12 (i + 12) refl (omega arith) t;
  }

  pub spoiled_from : spoiled bs i ≡ spoiled (chunk bs i) 0
  spoiled_from =
      let zero_at = λ (j : ℕ) (l : j < 16). ap (λ (b : ℕ). not (eqb b 0)) (byte_from j (i + j) refl l) in
      ap₂ ◌||◌ (zero_at 13 (omega arith)) (ap₂ ◌||◌ (zero_at 14 (omega arith)) (zero_at 15 (omega arith)))

-- ---- the chunks that the bytes are read in
module _ (bs : List ℕ) where
  headers_of_chunks : (n k : ℕ) → map (λ xs. header_at xs 0) (first_chunks 16 n (drop (16 * k) bs)) ≡ map (header_at bs) (starts_from k n)
  headers_of_chunks zero k = refl
  headers_of_chunks (suc n) k =
      ap₂ ◌∷◌ (sym (header_from bs (16 * k))) (ap (λ xs. map (λ ys. header_at ys 0) (first_chunks 16 n xs)) (sym (on_drop bs k)) ∙ headers_of_chunks n (k + 1))

  spoiled_of_chunks : (n k : ℕ) → list_any (λ xs. spoiled xs 0) (first_chunks 16 n (drop (16 * k) bs)) ≡ any (spoiled bs) (starts_from k n)
  spoiled_of_chunks zero k = refl
  spoiled_of_chunks (suc n) k =
      ap₂ ◌||◌ (sym (spoiled_from bs (16 * k))) (ap (λ xs. list_any (λ ys. spoiled ys 0) (first_chunks 16 n xs)) (sym (on_drop bs k)) ∙ spoiled_of_chunks n (k + 1))

  pub headers_of_block : map (λ xs. header_at xs 0) (first_chunks 16 (length bs / 16) bs) ≡ headers_in bs
  headers_of_block = headers_of_chunks (length bs / 16) 0

  pub spoiled_of_block : list_any (λ xs. spoiled xs 0) (first_chunks 16 (length bs / 16) bs) ≡ any (spoiled bs) (starts bs)
  spoiled_of_block = spoiled_of_chunks (length bs / 16) 0

-- ---- from numbers to bytes and back
two_back : (n : ℕ) → n / 256 * 256 + n % 256 ≡ n
two_back n = omega arith

four_back : (n : ℕ) → (n / 65536 / 256 * 256 + n / 65536 % 256) * 65536 + (n % 65536 / 256 * 256 + n % 65536 % 256) ≡ n
four_back n = omega arith

pub header_back : (h : Header) → header_at (header_bytes h) 0 ≡ h
header_back h = λ t. record {
  addresses = record { source = four_back h.addresses.source t; destination = four_back h.addresses.destination t };
  ports = record { source = two_back h.ports.source t; destination = two_back h.ports.destination t };
  protocol = h.protocol;
}

-- ---- from bytes to numbers and back
two_again : (a b : ℕ) → b < 256 → two_bytes (a * 256 + b) ≡ a ∷ b ∷ []
two_again a b l = ap₂ (λ x y. x ∷ y ∷ []) (omega arith) (omega arith)

four_again : (a b c d : ℕ) → b < 256 → c < 256 → d < 256 → four_bytes ((a * 256 + b) * 65536 + (c * 256 + d)) ≡ a ∷ b ∷ c ∷ d ∷ []
four_again a b c d l m n =
    let high : ((a * 256 + b) * 65536 + (c * 256 + d)) / 65536 ≡ a * 256 + b = omega arith in
    let low : ((a * 256 + b) * 65536 + (c * 256 + d)) % 65536 ≡ c * 256 + d = omega arith in
    ap₂ (λ x y. two_bytes x ++ two_bytes y) high low ∙ ap₂ ◌++◌ (two_again a b l) (two_again c d n)

-- sixteen bytes
module _ (bs : List ℕ) (long : length bs ≡ 16) (small : AllByRecursion (λ b. b < 256) bs) (clean : spoiled bs 0 ≡ false) where
  below : (i : ℕ) → i < 16 → byte bs i < 256
  below i l = All-get_or (λ b. b < 256) bs i 0 (omega arith) small

  last : byte bs 12 ∷ 0 ∷ 0 ∷ 0 ∷ [] ≡ byte bs 12 ∷ byte bs 13 ∷ byte bs 14 ∷ byte bs 15 ∷ []
  last =
      let p = or_parts _ _ clean in
      let q = or_parts _ _ p.1 in
      let a = eqb-true (byte bs 13) 0 (not-false _ p.0) in
      let b = eqb-true (byte bs 14) 0 (not-false _ q.0) in
      let c = eqb-true (byte bs 15) 0 (not-false _ q.1) in
      cc

  pub header_again : header_bytes (header_at bs 0) ≡ bs
  header_again =
      let lt = below in
      let source = four_again (byte bs 0) (byte bs 1) (byte bs 2) (byte bs 3) (lt 1 (omega arith)) (lt 2 (omega arith)) (lt 3 (omega arith)) in
      let destination = four_again (byte bs 4) (byte bs 5) (byte bs 6) (byte bs 7) (lt 5 (omega arith)) (lt 6 (omega arith)) (lt 7 (omega arith)) in
      let ports = ap₂ ◌++◌ (two_again (byte bs 8) (byte bs 9) (lt 9 (omega arith))) (two_again (byte bs 10) (byte bs 11) (lt 11 (omega arith))) in
      ap₂ ◌++◌ source (ap₂ ◌++◌ destination (ap₂ ◌++◌ ports last)) ∙ sym (fill_by_all (byte bs) bs 16 0 long (λ k l. refl))
