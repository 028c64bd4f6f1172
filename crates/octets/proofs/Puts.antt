-- Bytes written one after another.
use Rattle.std.proofs.Common.{◌≡◌, ℕ, ◌+◌, ◌*◌, ◌<◌, ◌≤◌, List, [], ◌∷◌, ◌++◌, length, get_or, take, drop, sym, refl, ap, ◌∙◌, mul-zero, zero-add, mul-suc, arith}
use Rattle.std.specs.List.{flat_map}
use lib.Seq.{paste}
use Rattle.std.proofs.lemmas.List.{length-append, length-take-le, take_all, take_more, flat_map_more}
use Rattle.std.proofs.lemmas.List.Edits.{paste_none, paste_all, paste-paste}
use Rattle.octets.specs.Output.{put_at}

pub put_is_paste : (at : ℕ) (bs out : List ℕ) → put_at at bs out ≡ paste out at bs (length bs)
unfolding put_at
put_is_paste at bs out = sym (paste_all out at bs (length bs) refl)

pub put_none : (at : ℕ) (out : List ℕ) → put_at at [] out ≡ out
put_none at out = put_is_paste at [] out ∙ sym (paste_none out at [])

-- bytes after bytes
pub put_next : (at p : ℕ) (bs cs out : List ℕ) → at ≤ length out → at + length bs ≡ p → put_at p cs (put_at at bs out) ≡ put_at at (bs ++ cs) out
put_next at p bs cs out l e =
    rw (← e, put_is_paste at bs out, put_is_paste (at + length bs), put_is_paste at (bs ++ cs), length-append bs cs) (paste-paste out at bs cs (length bs) (length cs) refl refl l)

pub put_front : (bs out : List ℕ) → put_at 0 bs out ≡ bs ++ drop (length bs) out
unfolding put_at
put_front bs out = rw (zero-add (length bs))

-- each element gives k bytes
module _ {X : Type 0} (f : X → List ℕ) (k : ℕ) (each : (x : X) → length (f x) ≡ k) where
  pub length_joined : (xs : List X) → length (flat_map f xs) ≡ k * length xs
  length_joined [] = sym (mul-zero k)
  length_joined (x ∷ xs) = length-append (f x) (flat_map f xs) ∙ omega (arith, each x, length_joined xs, mul-suc k (length xs))

  -- after the bytes of the elements before place i come those of the element there
  pub put_more : (at p : ℕ) (xs : List X) (i : ℕ) (d : X) (out : List ℕ) → i < length xs → at ≤ length out → at + k * i ≡ p
      → put_at p (f (get_or xs i d)) (put_at at (flat_map f (take i xs)) out) ≡ put_at at (flat_map f (take (i + 1) xs)) out
  put_more at p xs i d out h l e =
      let n = length_joined (take i xs) ∙ ap (λ (j : ℕ). k * j) (length-take-le i xs (omega arith)) in
      let t = ap (flat_map f) (take_more xs i d h) ∙ sym (flat_map_more f [] (take i xs) (get_or xs i d)) in
      put_next at p (flat_map f (take i xs)) (f (get_or xs i d)) out l (omega (arith, n)) ∙ ap (λ (bs : List ℕ). put_at at bs out) (sym t)

  pub put_all : (at : ℕ) (xs : List X) (i : ℕ) (out : List ℕ) → length xs ≤ i → put_at at (flat_map f (take i xs)) out ≡ put_at at (flat_map f xs) out
  put_all at xs i out h = ap (λ (ys : List X). put_at at (flat_map f ys) out) (take_all i xs h)
