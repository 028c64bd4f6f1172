-- Lists of which one element after another is chosen, and lists over places.
use Rattle.std.specs.Prelude.{ℕ, zero, suc, Bool, true, cond, ◌&&◌, List, [], ◌∷◌, nat_le}

module _ {X : Type 0} where
  -- of x and the others the one that counts most, of several the first, and then the rest in their order
  abbrev pub pick : (X → ℕ) → X → List X → X × List X
  pick c x [] = (x, [])
  pick c x (y ∷ ys) = let r = pick c y ys in cond (nat_le (c r.0) (c x)) (x, y ∷ ys) (r.0, x ∷ r.1)

  -- one after another, until there are g or none is left
  abbrev pub chosen : (X → ℕ) → ℕ → List X → List X
  chosen c zero xs = []
  chosen c (suc g) [] = []
  chosen c (suc g) (x ∷ xs) = let r = pick c x xs in r.0 ∷ chosen c g r.1

  -- what f has at the n places from place i on
  abbrev pub line : (ℕ → X) → ℕ → ℕ → List X
  line f i zero = []
  line f i (suc n) = f i ∷ line f (suc i) n

-- the test holds at the n places from place i on
abbrev pub every : (ℕ → Bool) → ℕ → ℕ → Bool
every q i zero = true
every q i (suc n) = q i && every q (suc i) n
