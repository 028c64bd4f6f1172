-- The rows that the slots hold: their numbers, a loop over the slots, and a slot read, written or emptied.
use Rattle.std.proofs.Common.{◌≡◌, ℕ, suc, ◌+◌, ◌<◌, ◌≤◌, Bool, false, cond, not, ◌&&◌, eqb, List, [], ◌∷◌, ◌++◌, map, length, get_or, take, drop, set, is_some, Some, None, filter, Option, sym, refl, ap, ◌∙◌, ap₂, ⊎_elim, arith}
use mathlib.Core.Bool.{and_self}
use Rattle.std.specs.Option.{option_to_list}
use Rattle.std.specs.List.{ContainsAt as Has, AllByRecursion}
use Rattle.std.proofs.lemmas.List.Elements.{filter-append}
use Rattle.std.proofs.ByRecursion.{All-map, All-weaker, has_append_left, has_append_right, has_push}
use Rattle.std.proofs.lemmas.List.{append-nil, get_or_past, length-take, length-take-le, map-append, set-get_or, set_split, take_all, take_more}
use Rattle.std.proofs.lemmas.Bool.{cases_lt, eq-eqb, le-ltb, lt-ltb, ne_eqb, or_left, true≢false}
use Rattle.fields.specs.declared.perfield.PerField.{PerField}
use Rattle.sheets.specs.declared.row.PatternRow.{PatternRow}
use Rattle.sheets.specs.declared.row.RuleRow.{RuleRow}
use Rattle.levels.proofs.Counts.{any_same, kept_all, kept_none, kept_same}
use Rattle.groups.proofs.Tests.{any_kept_is}
use Rattle.book.specs.Book.{stands, insert, without}
use Rattle.rulesets.proofs.Members.{Ascending}
use Rattle.sheets.specs.Fields.{row_of, parts_of}
use Rattle.ruletable.specs.Slots.{rows_from, rows, row_in}

abbrev pub Slot : Type 0
Slot = Option (PerField PatternRow)

-- the numbers of the rows
abbrev pub numbers : List Slot → List ℕ
numbers s = map (λ r. r.number) (rows s)

abbrev numbered : ℕ → RuleRow → Bool
numbered n r = eqb r.number n

-- ---- lists of rows

-- a number that none has
abbrev Others : ℕ → List RuleRow → Type 0
Others n rs = AllByRecursion (λ r. r.number ≡ n → ⊥) rs

kept_others : (n : ℕ) (rs : List RuleRow) → Others n rs → filter (numbered n) rs ≡ []
kept_others n rs h =
    kept_same (numbered n) (λ _. false) rs (All-weaker _ _ (λ r ne. ne_eqb r.number n ne) rs h) ∙ kept_none (λ _. false) (λ _. refl) rs

without_others : (n : ℕ) (rs : List RuleRow) → Others n rs → without n rs ≡ rs
without_others n rs h = kept_all _ rs (All-weaker _ _ (λ r ne. ap not (ne_eqb r.number n ne)) rs h)

kept_parts : (p : RuleRow → Bool) (xs ys zs : List RuleRow) → filter p (xs ++ (ys ++ zs)) ≡ filter p xs ++ (filter p ys ++ filter p zs)
kept_parts p xs ys zs = filter-append p xs (ys ++ zs) ∙ ap (λ rs. filter p xs ++ rs) (filter-append p ys zs)

insert_after : (r : RuleRow) (qs rs : List RuleRow) → AllByRecursion (λ q. q.number < r.number) qs → insert r (qs ++ rs) ≡ qs ++ insert r rs
insert_after r [] rs h = refl
insert_after r (q ∷ qs) rs h =
    ap₂ (λ b l. cond b (r ∷ q ∷ qs ++ rs) (q ∷ l)) (le-ltb r.number q.number (omega (arith, h.0))) (insert_after r qs rs h.1)

insert_before : (r : RuleRow) (rs : List RuleRow) → AllByRecursion (λ q. r.number < q.number) rs → insert r rs ≡ r ∷ rs
insert_before r [] h = refl
insert_before r (q ∷ rs) h = ap (λ b. cond b (r ∷ q ∷ rs) (q ∷ insert r rs)) (lt-ltb r.number q.number h.0)

-- ---- the rows of slots

first_slot : (i : ℕ) (o : Slot) (s : List Slot) → rows_from i (o ∷ s) ≡ option_to_list (row_in i o) ++ rows_from (suc i) s
first_slot i None s = refl
first_slot i (Some p) s = refl

pub rows_append : (i m : ℕ) (s t : List Slot) → m ≡ i + length s → rows_from i (s ++ t) ≡ rows_from i s ++ rows_from m t
rows_append i m [] t e = ap (λ k. rows_from k t) (let q : i ≡ m = omega arith in q)
rows_append i m (None ∷ s) t e = rows_append (suc i) m s t (omega arith)
rows_append i m (Some p ∷ s) t e = ap (λ rs. row_of i p ∷ rs) (rows_append (suc i) m s t (omega arith))

-- their numbers are those of slots
pub rows_within : (i n : ℕ) (s : List Slot) → i + length s ≤ n → AllByRecursion (λ r. (i ≤ r.number) × (r.number < n)) (rows_from i s)
rows_within i n [] l = tt
rows_within i n (None ∷ s) l = All-weaker _ _ (λ r h. (omega (arith, h.0), h.1)) _ (rows_within (suc i) n s (omega arith))
rows_within i n (Some p ∷ s) l = ((omega arith, omega arith), All-weaker _ _ (λ r h. (omega (arith, h.0), h.1)) _ (rows_within (suc i) n s (omega arith)))

rows_past : (n : ℕ) (s : List Slot) → AllByRecursion (λ r. n < r.number) (rows_from (suc n) s)
rows_past n s = All-weaker _ _ (λ r h. omega (arith, h.0)) _ (rows_within (suc n) (suc n + length s) s (omega arith))

pub rows_ascending : (i : ℕ) (s : List Slot) → Ascending (map (λ r. r.number) (rows_from i s))
rows_ascending i [] = tt
rows_ascending i (None ∷ s) = rows_ascending (suc i) s
rows_ascending i (Some p ∷ s) = (All-map _ _ _ (rows_past i s), rows_ascending (suc i) s)

-- each row is in the slot of its number
pub rows_placed : (s : List Slot) → AllByRecursion (λ r. get_or s r.number None ≡ Some (parts_of r)) (rows s)
rows_placed s = All-weaker _ _ (λ r h. ap (λ k. get_or s k None) (let e : r.number ≡ h.0 = omega arith in e) ∙ h.2) _ (places 0 s)
  where
    places : (i : ℕ) (t : List Slot) → AllByRecursion (λ r. (k : ℕ) × (r.number ≡ i + k) × (get_or t k None ≡ Some (parts_of r))) (rows_from i t)
    places i [] = tt
    places i (None ∷ t) = All-weaker _ _ (λ r h. (suc h.0, omega (arith, h.1), h.2)) _ (places (suc i) t)
    places i (Some p ∷ t) = ((0, omega arith, refl), All-weaker _ _ (λ r h. (suc h.0, omega (arith, h.1), h.2)) _ (places (suc i) t))

-- ---- a loop over the slots

pub rows_more : (s : List Slot) (i : ℕ) → i < length s → rows (take (i + 1) s) ≡ rows (take i s) ++ option_to_list (row_in i (get_or s i None))
rows_more s i l =
    ap rows (take_more s i None l)
    ∙ rows_append 0 i (take i s) (get_or s i None ∷ []) (omega (arith, length-take-le i s (omega arith)))
    ∙ ap (λ rs. rows (take i s) ++ rs) (first_slot i (get_or s i None) [] ∙ append-nil _)

pub rows_all : (s : List Slot) (i : ℕ) → length s ≤ i → rows (take i s) ≡ rows s
rows_all s i l = ap rows (take_all i s l)

pub rows_below : (s : List Slot) (i : ℕ) → AllByRecursion (λ r. r.number < i) (rows (take i s))
rows_below s i = All-weaker _ _ (λ r h. h.1) _ (rows_within 0 i (take i s) (omega (arith, length-take i s)))

pub numbers_below : (s : List Slot) (i : ℕ) → AllByRecursion (λ n. n < i) (numbers (take i s))
numbers_below s i = All-map _ _ _ (rows_below s i)

pub numbers_more : (s : List Slot) (i : ℕ) (b : Bool) → i < length s → b ≡ is_some (get_or s i None) → numbers (take (i + 1) s) ≡ numbers (take i s) ++ cond b (i ∷ []) []
numbers_more s i b l e =
    ap (map (λ r. r.number)) (rows_more s i l)
    ∙ map-append (λ r. r.number) (rows (take i s)) _
    ∙ ap (λ ns. numbers (take i s) ++ ns) (one (get_or s i None) ∙ ap (λ t. cond t (i ∷ []) []) (sym e))
  where
    one : (o : Slot) → map (λ r. r.number) (option_to_list (row_in i o)) ≡ cond (is_some o) (i ∷ []) []
    one None = refl
    one (Some p) = refl

-- ---- one slot

-- the rows before a slot, and those after it
module _ (s : List Slot) (n : ℕ) where
  abbrev pub before : List RuleRow
  before = rows (take n s)

  abbrev pub after : List RuleRow
  after = rows_from (suc n) (drop (suc n) s)

  others : Others n before × Others n after
  others = (All-weaker _ _ (λ r h e. omega arith) _ (rows_below s n), All-weaker _ _ (λ r h e. omega arith) _ (rows_past n (drop (suc n) s)))

  pub rows_set : (o : Slot) → n < length s → rows (set s n o) ≡ before ++ (option_to_list (row_in n o) ++ after)
  rows_set o l =
      ap rows (set_split s n o l)
      ∙ rows_append 0 n (take n s) (o ∷ drop (suc n) s) (omega (arith, length-take-le n s (omega arith)))
      ∙ ap (λ rs. before ++ rs) (first_slot n o (drop (suc n) s))

  pub rows_at : n < length s → rows s ≡ before ++ (option_to_list (row_in n (get_or s n None)) ++ after)
  rows_at l = ap rows (sym (set-get_or s n None)) ∙ rows_set (get_or s n None) l

  -- the rows of a number are the one in its slot
  pub get_row : filter (λ r. eqb r.number n) (rows s) ≡ option_to_list (row_in n (get_or s n None))
  get_row = ⊎_elim within past (cases_lt n (length s))
    where
      own : (o : Slot) → filter (numbered n) (option_to_list (row_in n o)) ≡ option_to_list (row_in n o)
      own None = refl
      own (Some p) = ap (λ b. cond b (row_of n p ∷ []) []) (eq-eqb n n refl)

      within : n < length s → filter (numbered n) (rows s) ≡ option_to_list (row_in n (get_or s n None))
      within l =
          ap (filter (numbered n)) (rows_at l)
          ∙ kept_parts (numbered n) before _ after
          ∙ ap₂ (λ xs zs. xs ++ (filter (numbered n) (option_to_list (row_in n (get_or s n None))) ++ zs)) (kept_others n before others.0) (kept_others n after others.1)
          ∙ append-nil _
          ∙ own (get_or s n None)

      past : length s ≤ n → filter (numbered n) (rows s) ≡ option_to_list (row_in n (get_or s n None))
      past l =
          kept_others n (rows s) (All-weaker _ _ (λ r h e. omega (arith, h.1)) _ (rows_within 0 (length s) s (omega arith)))
          ∙ ap (λ o. option_to_list (row_in n o)) (sym (get_or_past s n None l))

  pub has_row : (p : PerField PatternRow) → n < length s → get_or s n None ≡ Some p → Has (rows s) (row_of n p)
  has_row p l e =
      let found = has_append_right before _ _ (has_append_left (row_of n p ∷ []) after _ (has_push [] (row_of n p))) in
      rw (rows_at l, e) found

  pub stands_row : stands n (rows s) ≡ is_some (get_or s n None)
  stands_row =
      any_same (numbered n) (λ r. numbered n r && numbered n r) (λ r. sym (and_self (numbered n r))) (rows s)
      ∙ sym (any_kept_is (numbered n) (numbered n) (rows s))
      ∙ ap (stands n) get_row
      ∙ own (get_or s n None)
    where
      own : (o : Slot) → stands n (option_to_list (row_in n o)) ≡ is_some o
      own None = refl
      own (Some p) = or_left _ _ (eq-eqb n n refl)

  -- a slot emptied
  pub strike_row : n < length s → rows (set s n None) ≡ without n (rows s)
  strike_row l =
      rows_set None l
      ∙ sym
      (ap (without n) (rows_at l)
      ∙ kept_parts _ before _ after
      ∙ ap (λ ys. without n before ++ (ys ++ without n after)) (own (get_or s n None))
      ∙ ap₂ ◌++◌ (without_others n before others.0) (without_others n after others.1))
    where
      own : (o : Slot) → without n (option_to_list (row_in n o)) ≡ []
      own None = refl
      own (Some p) = ap (λ b. cond (not b) (row_of n p ∷ []) []) (eq-eqb n n refl)

-- a row written into the slot of its number, where none stood
pub put_row : (s : List Slot) (r : RuleRow) → r.number < length s → stands r.number (rows s) ≡ false → rows (set s r.number (Some (parts_of r))) ≡ insert r (rows s)
put_row s r l h =
    let n = r.number in
    let was : rows s ≡ before s n ++ after s n = rows_at s n l ∙ ap (λ o. before s n ++ (option_to_list (row_in n o) ++ after s n)) (empty (get_or s n None) (sym (stands_row s n) ∙ h)) in
    rows_set s n (Some (parts_of r)) l
    ∙ sym (ap (insert r) was ∙ insert_after r (before s n) (after s n) (rows_below s n) ∙ ap (λ rs. before s n ++ rs) (insert_before r (after s n) (rows_past n (drop (suc n) s))))
  where
    empty : (o : Slot) → is_some o ≡ false → o ≡ None
    empty None e = refl
    empty (Some p) e = absurd (true≢false e)
