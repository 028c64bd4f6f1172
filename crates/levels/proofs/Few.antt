-- A pattern is told by its length and its number, so there are at most 2 ^ 40 patterns.
use Rattle.std.proofs.Common.{◌≡◌, ℕ, ◌+◌, ◌*◌, ◌^◌, ◌<◌, ◌≤◌, Bool, true, false, cond, ◌&&◌, eqb, ltb, List, length, filter, sym, ap, ◌∙◌, subst, arith}
use Rattle.std.specs.List.{AllByRecursion}
use Rattle.std.proofs.ByRecursion.{All-weaker}
use Rattle.std.proofs.lemmas.Bool.{and_parts, and_from, eqb-true, eq-eqb, ltb-true, lt-ltb}
use Rattle.std.proofs.lemmas.Bool.Decides.{same_from_decides}
use Rattle.fields.specs.Lists.{any, once}
use Rattle.fields.specs.Nest.{Nest}
use Rattle.levels.specs.Levels.{same}
use Rattle.levels.specs.Told.{told}
use Rattle.levels.proofs.Counts.{by_keys, kept_all, kept_twice, tally_le}

cond_le : (b : Bool) → cond b 1 0 ≤ 1
cond_le true = omega arith
cond_le false = omega arith

module _ {P V : Type 0} (n : Nest P V) where
  pub same_is : (a b : P) → same n.within a b ≡ true → a ≡ b
  same_is a b h = n.antisymmetric a b (and_parts _ _ h).0 (and_parts (n.within a b) _ h).1

  pub same_from : (a b : P) → a ≡ b → same n.within a b ≡ true
  same_from a b e = subst (λ c. same n.within a c ≡ true) e (and_from _ _ (n.reflexive a) (n.reflexive a))

  told_one : (a b : P) → n.length a ≡ n.length b → n.number a ≡ n.number b → a ≡ b
  told_one a b e f = let x = n.made a in let y = n.made b in cc

  pub same_told : (a b : P) → same n.within a b ≡ (eqb (n.length a) (n.length b) && eqb (n.number a) (n.number b))
  same_told a b =
      same_from_decides {P = a ≡ b} _ _ (same_is a b, same_from a b)
      ((λ h. told_one a b (eqb-true _ _ (and_parts _ _ h).0) (eqb-true _ _ (and_parts (eqb (n.length a) (n.length b)) _ h).1)), (λ e. and_from _ _ (eq-eqb _ _ (ap n.length e)) (eq-eqb _ _ (ap n.number e))))

  -- what is compared, by numbers that were read
  pub alike_is : (a b : P) {l m x y : ℕ} → l ≡ n.length a → m ≡ n.length b → x ≡ n.number a → y ≡ n.number b → (eqb l m && eqb x y) ≡ same n.within a b
  alike_is a b e f h k = let s = same_told a b in cc

  pub told_from : (a : P) {l x : ℕ} → l ≡ n.length a → x ≡ n.number a → l < 2 ^ 8 → x < 2 ^ 32 → told n a ≡ true
  told_from a e f h k = and_from _ _ (lt-ltb (n.length a) (2 ^ 8) (omega arith)) (lt-ltb (n.number a) (2 ^ 32) (omega arith))

  -- a number for each pattern that is told
  key : P → ℕ
  key p = n.length p * 2 ^ 32 + n.number p

  low : (p : P) → told n p ≡ true → (n.length p < 2 ^ 8) × (n.number p < 2 ^ 32)
  low p e = (ltb-true _ _ (and_parts _ _ e).0, ltb-true _ _ (and_parts (ltb (n.length p) (2 ^ 8)) _ e).1)

  key_below : (p : P) → told n p ≡ true → ltb (key p) (2 ^ 40) ≡ true
  unfolding key
  key_below p e = let l = low p e in lt-ltb _ _ (omega arith)

  key_one : (x y : P) → told n x ≡ true → told n y ≡ true → key x ≡ key y → same n.within x y ≡ true
  unfolding key
  key_one x y a b e =
      let l = low x a in
      let m = low y b in
      same_from x y (told_one x y (omega arith) (omega arith))

  pub few : (t : P → Bool) (ps : List P) → AllByRecursion (λ p. told n p ≡ true) (filter t (once (same n.within) ps)) → length (filter t (once (same n.within) ps)) ≤ 2 ^ 40
  few t ps h =
      let all = once (same n.within) ps in
      let kept = filter t (once (same n.within) ps) in
      let below : P → Bool = λ p. ltb (key p) (2 ^ 40) in
      let s : P → Bool = λ p. t p && told n p in
      let told-kept : filter s all ≡ kept = sym (kept_twice (told n) t all) ∙ kept_all (told n) kept h in
      let same_kept : filter (λ p. s p && below p) all ≡ kept = sym (kept_twice below s all) ∙ ap (filter below) told-kept ∙ kept_all below kept (All-weaker _ (λ p. below p ≡ true) key_below kept h) in
      let one : (x y : P) → s x ≡ true → s y ≡ true → key x ≡ key y → same n.within x y ≡ true = λ x y a b. key_one x y (and_parts (t x) _ a).1 (and_parts (t y) _ b).1 in
      let keys = by_keys (same n.within) same_is s key one ps (2 ^ 40) in
      let bound = tally_le (λ m. cond (any (λ p. s p && eqb (key p) m) ps) 1 0) (λ m. cond_le (any (λ p. s p && eqb (key p) m) ps)) (2 ^ 40) in
      omega (arith, ap length same_kept)
