-- Texts put one after another.
use Rattle.std.proofs.Common.{◌≡◌, ℕ, ◌+◌, ◌^◌, ◌<◌, ◌≤◌, List, [], ◌++◌, length, get_or, take, sym, refl, ap, ◌∙◌, arith}
use Rattle.std.specs.List.{flat_map}
use Rattle.std.proofs.lemmas.List.{length-append, take_more, flat_map_more}
use Rattle.std.proofs.lemmas.List.Edits.{length-paste}
use Rattle.octets.specs.Output.{put_at}
use Rattle.octets.proofs.Puts as puts
use Rattle.lines.specs.Cursors.{Put}
use Rattle.lines.specs.declared.cursor.Cursor.{Cursor}

pub length_put : (at : ℕ) (bs out : List ℕ) → at + length bs ≤ length out → length (put_at at bs out) ≡ length out
length_put at bs out l = ap length (puts.put_is_paste at bs out) ∙ length-paste out at bs (length bs) l (omega arith)

pub put_none : (a : Cursor) → a.count < 2 ^ 64 → Put a [] a
put_none a l = record {
  same_reference = refl;
  same_length = refl;
  count = omega arith;
  next = λ h. omega arith;
  out = λ h. sym (puts.put_none a.count a.out.now);
}

pub put_then : {a b c : Cursor} {bs cs : List ℕ} → Put a bs b → Put b cs c → Put a (bs ++ cs) c
put_then {a} {b} {c} {bs} {cs} p q =
    let n = length-append bs cs in
    let fits = λ (h : a.count + length (bs ++ cs) ≤ length a.out.now). p.next (omega arith) in
    record {
      same_reference = q.same_reference ∙ p.same_reference;
      same_length = q.same_length ∙ p.same_length;
      count = omega (arith, p.count, q.count);
      next = λ h. omega (arith, fits h, q.next (omega (arith, fits h, p.same_length)));
      out = λ h. q.out (omega (arith, fits h, p.same_length)) ∙
          (ap (put_at b.count cs) (p.out (omega arith)) ∙ puts.put_next a.count b.count bs cs a.out.now (omega arith) (sym (fits h)));
    }

pub put_same : {a b : Cursor} {bs cs : List ℕ} → Put a bs b → bs ≡ cs → Put a cs b
put_same p e = rw (sym e) p

-- what is put of the first elements, and of one more
pub put_more : {X : Type 0} (f : X → List ℕ) (xs : List X) (i : ℕ) (d : X) {a b c : Cursor} → i < length xs
    → Put a (flat_map f (take i xs)) b → Put b (f (get_or xs i d)) c → Put a (flat_map f (take (i + 1) xs)) c
put_more f xs i d l p q = rw (ap (flat_map f) (take_more xs i d l) ∙ sym (flat_map_more f [] (take i xs) (get_or xs i d))) (put_then p q)
