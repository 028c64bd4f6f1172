-- What the rows say of the map, and what a put leaves of them.
use Rattle.std.proofs.Common.{◌≡◌, ℕ, ◌<◌, true, cond, List, [], ◌∷◌, ◌++◌, length, get_or, set, replicate, Some, None, Option, sym, refl, ap, ◌∙◌, arith}
use Rattle.std.proofs.lemmas.List.{length_push, length-set, get_or_push}
use Rattle.std.proofs.lemmas.Bool.Decides.{nat_tests}
use Rattle.std.proofs.lemmas.Grind.{common_steps}
use Rattle.std.specs.Option.{option_map}
use Rattle.keytables.specs.Chains.{link_of, latest}
use Rattle.keytables.specs.Keys.{numbers_of, same_key, put_at}
use Rattle.keytables.specs.Rows.{no_row, with_entry, has_key, row_of, stored, mixed, bucket, chain_of, Sound}
use Rattle.keytables.specs.declared.buckets.Row.{Row}
use Rattle.keytables.specs.declared.key.Key.{Key}
use Rattle.keytables.proofs.Chains.{chained_none, chained_more, chained_same}
use Rattle.keytables.proofs.Latest.{latest_more, latest_same, latest_holds}
use Rattle.keytables.proofs.Same.{from_same, to_same, same_flip}

bucket_below : (k : Key) → bucket k < 4096
unfolding bucket mixed numbers_of
bucket_below k = omega arith

pub bucket_own : (rows : List Row) (k : Key) (j : ℕ) → has_key rows k j ≡ true → chain_of rows j ≡ bucket k
bucket_own rows k j h = ap bucket (from_same (get_or rows j no_row).key k h)

row_holds : (rows : List Row) (k : Key) (i : ℕ) → Some i ≡ row_of rows k → (i < length rows) × ((get_or rows i no_row).key ≡ k)
unfolding row_of
row_holds rows k i e =
    let r = latest_holds (has_key rows k) (length rows) i (sym e) in
    (r.0, from_same (get_or rows i no_row).key k r.1)

pub stored_none : (rows : List Row) (k : Key) → rows ≡ [] → stored rows k ≡ None
unfolding stored row_of latest
stored_none rows k e = rw e refl

-- the entry of a row that may be there
abbrev entry_at : List Row → Option ℕ → Option ℕ
entry_at rows = option_map (λ i. (get_or rows i no_row).entry)

-- an entry put in place of another
module _ (rows : List Row) (k : Key) (i e : ℕ) (r : Some i ≡ row_of rows k) where
  row_set : (q : Key) → row_of (set rows i (with_entry (get_or rows i no_row) e)) q ≡ row_of rows q
  unfolding row_of
  row_set q =
      let l = (row_holds rows k i r).0 in
      let more = set rows i (with_entry (get_or rows i no_row) e) in
      ap (latest (has_key more q)) (length-set rows i (with_entry (get_or rows i no_row) e))
      ∙ latest_same (has_key more q) (has_key rows q) (length rows)
      (λ j _. grind (arith, common_steps))

  entry_set : (q : Key) (o : Option ℕ) → o ≡ row_of rows q → entry_at (set rows i (with_entry (get_or rows i no_row) e)) o ≡ cond (same_key q k) (Some e) (entry_at rows o)
  entry_set q None s = grind (arith, common_steps, from_same q k, r)
  entry_set q (Some j) s =
      let here = row_holds rows k i r in
      let there = row_holds rows q j s in
      grind (arith, common_steps, nat_tests, from_same q k, to_same q k)

  pub stored_set : (q : Key) → stored (set rows i (with_entry (get_or rows i no_row) e)) q ≡ put_at true (stored rows) k e q
  unfolding stored
  stored_set q = ap (entry_at (set rows i (with_entry (get_or rows i no_row) e))) (row_set q) ∙ entry_set q (row_of rows q) refl

pub sound_set : (heads : List (Option ℕ)) (rows : List Row) (i e : ℕ) → i < length rows → Sound heads rows → Sound heads (set rows i (with_entry (get_or rows i no_row) e))
sound_set heads rows i e l s = record {
  few = grind (arith, common_steps);
  chained = rw length-set
      (chained_same _ _ _ _ _ _ (length rows) (λ j. grind (arith, common_steps)) (λ _. refl) (λ j. grind (arith, common_steps)) s.chained);
}

-- a new row
module _ (rows : List Row) (k : Key) (e : ℕ) (x : Option ℕ) where
  row_push : (q : Key) → row_of (rows ++ record { key = k; entry = e; link = x } ∷ []) q ≡ cond (same_key q k) (Some (length rows)) (row_of rows q)
  unfolding row_of
  row_push q =
      let v : Row = record { key = k; entry = e; link = x } in
      let more = rows ++ v ∷ [] in
      let n = length rows in
      let new : has_key more q n ≡ same_key q k = ap (λ (y : Row). same_key y.key q) (get_or_push rows v no_row n refl) ∙ same_flip k q in
      let old = latest_same (has_key more q) (has_key rows q) n (λ j l. grind (arith, common_steps)) in
      ap (latest (has_key more q)) (length_push rows v) ∙ latest_more (has_key more q) n
      ∙ cc

  entry_push : (q : Key) (o : Option ℕ) → o ≡ row_of rows q → entry_at (rows ++ record { key = k; entry = e; link = x } ∷ []) (cond (same_key q k) (Some (length rows)) o) ≡ cond (same_key q k) (Some e) (entry_at rows o)
  entry_push q None s = grind (arith, common_steps, get_or_push {X = Row})
  entry_push q (Some j) s =
      let there = row_holds rows q j s in
      grind (arith, common_steps, get_or_push {X = Row})

  pub stored_push : (q : Key) → stored (rows ++ record { key = k; entry = e; link = x } ∷ []) q ≡ put_at true (stored rows) k e q
  unfolding stored
  stored_push q = ap (entry_at (rows ++ record { key = k; entry = e; link = x } ∷ [])) (row_push q) ∙ entry_push q (row_of rows q) refl

pub sound_push : (heads : List (Option ℕ)) (rows more : List Row) (k : Key) (e i : ℕ) (link head : Option ℕ) → more ≡ rows ++ record { key = k; entry = e; link = link } ∷ [] → Sound heads rows → i ≡ bucket k → link ≡ get_or heads i None → head ≡ Some (length rows) → length rows < 2048 → length heads ≡ 4096 → Sound (set heads i head) more
sound_push heads rows more k e i link head row s at was now room wide =
    let v : Row = record { key = k; entry = e; link = link } in
    let below : i < length heads = omega (arith, bucket_below k) in
    rw row (record {
      few = omega (arith, length_push rows v);
      chained = rw length_push
          (chained_more _ _ _ _ _ _ (length rows) (bucket k) s.chained (record {
            chains = λ j l. grind (arith, common_steps);
            chain_new = grind (arith, get_or_push {X = Row});
            links = λ j l. grind (arith, common_steps);
            link_new = grind (arith, get_or_push {X = Row});
            heads = λ a ne. grind (arith, common_steps);
            head_new = grind (arith, common_steps);
          }));
    })

none_heads : (n b : ℕ) → link_of (get_or (replicate n None) b None) ≡ 0
none_heads n b = grind (arith, common_steps)

pub sound_none : (heads : List (Option ℕ)) (rows : List Row) (n : ℕ) → heads ≡ replicate n None → rows ≡ [] → Sound heads rows
sound_none heads rows n h r =
    simp (h, r) (record { few = omega arith; chained = chained_none _ _ _ (none_heads n) })
