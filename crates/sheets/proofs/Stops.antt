-- Reading stops at one place: the first that is out of order or ends the sheet.
use Rattle.std.proofs.Common.{◌≡◌, ℕ, zero, suc, ◌+◌, ◌<◌, ◌≤◌, Bool, true, false, cond, ◌||◌, leb, List, length, is_some, Some, None, Option, refl, ap, inl, inr, arith, below_more}
use Rattle.std.proofs.lemmas.Bool.{le-leb, cond-true, or_left, or_parts, or_from, both_ways, cases_order}
use Rattle.sheets.specs.Reading.{word_refusal, last, stop, StopsAt}

pub none_from : (o : Option ℕ) → is_some o ≡ false → o ≡ None
none_from (Some n) h = cc
none_from None h = refl

-- the word at place i is in order, and others follow
abbrev pub Passes : List ℕ → ℕ → Type 0
Passes ws i = (word_refusal ws i ≡ None) × (last ws i ≡ false)

missing : (ws : List ℕ) (i : ℕ) → length ws ≤ i → is_some (word_refusal ws i) ≡ true
missing ws i l = ap is_some (cond-true (leb (length ws) i) (Some 15) _ (le-leb _ _ l))

stops_from : (ws : List ℕ) (n i : ℕ) → i + n ≡ length ws → ((k : ℕ) → k < i → Passes ws k) → StopsAt ws (stop ws i n)
stops_from ws zero i e p = record { there = or_left (is_some (word_refusal ws i)) (last ws i) (missing ws i (omega arith)); before = p }
stops_from ws (suc n) i e p = go (λ q. stops_from ws n (i + 1) (omega arith) (below_more (Passes ws) i p q)) (is_some (word_refusal ws i) || last ws i) refl
  where
    go : (Passes ws i → StopsAt ws (stop ws (i + 1) n)) → (b : Bool) → (is_some (word_refusal ws i) || last ws i) ≡ b → StopsAt ws (cond b i (stop ws (i + 1) n))
    go on true h = record { there = h; before = p }
    go on false h = let q = or_parts (is_some (word_refusal ws i)) (last ws i) h in on (none_from (word_refusal ws i) q.0, q.1)

pub stops_first : (ws : List ℕ) → StopsAt ws (stop ws 0 (length ws))
stops_first ws = stops_from ws (length ws) 0 (omega arith) (λ k l. absurd (omega arith))

not_before : (ws : List ℕ) (i j : ℕ) → StopsAt ws i → StopsAt ws j → i < j → ⊥
not_before ws i j s t l =
    let p = t.before i l in
    both_ways _ (or_from (is_some (word_refusal ws i)) (last ws i) (ap is_some p.0) p.1) s.there

-- there is one such place
pub stop_is : (ws : List ℕ) (i : ℕ) → StopsAt ws i → stop ws 0 (length ws) ≡ i
stop_is ws i s = elim (cases_order (stop ws 0 (length ws)) i) [
  | inl e ↦ e
  | inr (inl l) ↦ absurd (not_before ws _ i (stops_first ws) s l)
  | inr (inr l) ↦ absurd (not_before ws i _ s (stops_first ws) l)
]
