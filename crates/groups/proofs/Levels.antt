-- A pattern within a marked one of its own level is the same.
use Rattle.std.proofs.Common.{◌≡◌, ℕ, ◌+◌, Bool, true, false, cond, not, ◌&&◌, map, refl, arith}
use mathlib.Core.Bool.{false≢true}
use Rattle.std.proofs.lemmas.Bool.{and_from, and_parts, not-true, not_from_false, both_ways}
use Rattle.levels.specs.Levels.{same, around, marked}
use Rattle.levels.proofs.Counts.{count_split}
use Rattle.groups.specs.Rules.{Nesting}
use Rattle.groups.specs.Theorems.{Nests, LevelsTell}
use Rattle.groups.proofs.Tests.{false_from, any_weaker, any_kept, any_long}

split : (p q : Bool) → (p ≡ true → q ≡ true) → cond q 1 0 ≡ cond p 1 0 + cond (q && not p) 1 0
split true true s = refl
split true false s = absurd (false≢true (s refl))
split false true s = refl
split false false s = refl

module _ {P : ℕ → Type 0} (N : Nesting P) (L : Nests N) (i : ℕ) where
  outer : (a b m : P i) → N.within i a b ≡ true → around (N.within i) b m ≡ true → around (N.within i) a m ≡ true
  outer a b m h k =
      let parts = and_parts (N.within i b m) _ k in
      and_from _ _ (L.trans i a b m h parts.0) (not_from_false _ (false_from _ (λ e. both_ways _ (not-true _ parts.1) (L.trans i m a b e h))))

  nearer : (a b m : P i) → N.within i a b ≡ true → N.within i b a ≡ false → same (N.within i) b m ≡ true → (around (N.within i) a m && not (around (N.within i) b m)) ≡ true
  nearer a b m h k s =
      let parts = and_parts (N.within i b m) _ s in
      let out : N.within i m a ≡ false = false_from _ (λ e. both_ways _ k (L.trans i b m a parts.0 e)) in
      rw (L.trans i a b m h parts.0, out, parts.0, parts.1)

pub levels_tell_lem : {P : ℕ → Type 0} → LevelsTell P
levels_tell_lem {P} N L rs i a b m h e = and_from _ _ h (go (N.within i b a) refl)
  where
    go : (t : Bool) → N.within i b a ≡ t → t ≡ true
    go true k = refl
    go false k =
        let ms = marked (N.within i) (N.whole i) (map (λ q. q.at i) rs) in
        let t : P i → Bool = λ x. around (N.within i) a x && not (around (N.within i) b x) in
        let more = count_split (around (N.within i) a) (around (N.within i) b) t (λ x. split _ _ (outer N L i a b x h)) ms in
        let one = any_long t _ (any_kept t t (λ x g. g) ms (any_weaker (same (N.within i) b) t (λ x. nearer N L i a b x h k) ms m)) in
        absurd (omega arith)
