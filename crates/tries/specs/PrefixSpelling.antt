-- That prefixes are the first bits of values of their width. Proofs alone, but for `path` and `spell`.
use Rattle.std.specs.Prelude.{◌≡◌, ℕ, ◌-◌, ◌*◌, ◌%◌, ◌^◌, ◌≤◌, min, Bool, true, List, length, take}
use Rattle.std.proofs.Math.Path.{sym, ap, subst}
use Rattle.std.proofs.Common.{◌∙◌, arith}
use Rattle.std.proofs.lemmas.Nat.{shr_split, pow_pos, mod_below}
use Rattle.std.proofs.lemmas.List.{length-take, length-take-le, take-take}
use Rattle.fields.specs.Numbering.{Numbering}
use Rattle.fields.specs.Prefixes.{matches, within}
use Rattle.fields.specs.PrefixLaws.{prefix_nest, short, low, fits, tail, same_prefix, within_from, within_shorter, within_agrees, matches_from, matches_agrees}
use Rattle.fields.specs.declared.prefix.Prefix.{Prefix}
use Rattle.tries.specs.Digits.{digits, digits_length, wrapped, agree, agrees}
use Rattle.tries.specs.Spelling.{Spelling}

-- the bits of a value, as many as a prefix can have
unfoldable pub spell : ℕ → ℕ → List Bool
spell w v = take (min w 32) (digits w v)

pub spell_length : (w v : ℕ) → length (spell w v) ≡ min w 32
unfolding spell
spell_length w v = length-take-le (min w 32) (digits w v) (omega (arith, digits_length w v))

module _ (w s : ℕ) where
  -- the bits that a prefix fixes
  unfoldable pub path : Prefix w s → List Bool
  path p = take p.length (digits w p.number)

  pub path_length : (p : Prefix w s) → length (path p) ≡ p.length
  unfolding path
  path_length p = length-take-le p.length (digits w p.number) (omega (arith, short p, digits_length w p.number))

  -- as many bits of a value as a prefix has
  spell_first : (p : Prefix w s) (v : ℕ) → take (length (path p)) (spell w v) ≡ take p.length (digits w (v % 2 ^ w))
  unfolding spell
  spell_first p v =
      ap (λ (k : ℕ). take k (take (min w 32) (digits w v))) (path_length p)
      ∙ take-take p.length (min w 32) (digits w v) (omega (arith, short p, low p))
      ∙ ap (take p.length) (sym (wrapped w v w (omega arith)))

  pub hit : (p : Prefix w s) (v : ℕ) → matches w s p v ≡ true → path p ≡ take (length (path p)) (spell w v)
  unfolding path
  hit p v h = agree w p.length p.number (v % 2 ^ w) (short p) (matches_agrees p v h) ∙ sym (spell_first p v)

  pub hits : (p : Prefix w s) (v : ℕ) → path p ≡ take (length (path p)) (spell w v) → matches w s p v ≡ true
  unfolding path
  hits p v h =
      matches_from p v (agrees w p.length p.number (v % 2 ^ w) (short p) (fits p) (mod_below v (2 ^ w) (pow_pos w)) (h ∙ spell_first p v))

  pub covered : (p q : Prefix w s) → within w s p q ≡ true → path q ≡ take (length (path q)) (path p)
  unfolding path
  covered p q h =
      agree w q.length q.number p.number (short q) (sym (within_agrees p q h))
      ∙ sym (take-take q.length p.length (digits w p.number) (within_shorter p q h))
      ∙ ap (λ (k : ℕ). take k (path p)) (sym (path_length q))

  pub covers : (p q : Prefix w s) → path q ≡ take (length (path q)) (path p) → within w s p q ≡ true
  unfolding path
  covers p q h =
      let n = ap length h ∙ length-take (length (path q)) (path p) in
      let le : q.length ≤ p.length = omega (arith, path_length q, path_length p) in
      within_from p q le (sym (agrees w q.length q.number p.number (short q) (fits q) (fits p)
      (h ∙ ap (λ (k : ℕ). take k (path p)) (path_length q) ∙ take-take q.length p.length (digits w p.number) le)))

  pub one : (p q : Prefix w s) → path p ≡ path q → p ≡ q
  unfolding path
  one p q h =
      let l : p.length ≡ q.length = sym (path_length p) ∙ ap length h ∙ path_length q in
      let e : take p.length (digits w p.number) ≡ take p.length (digits w q.number) = h ∙ ap (λ (k : ℕ). take k (digits w q.number)) (sym l) in
      let d = agrees w p.length p.number q.number (short p) (fits p) (fits q) e in
      let a = shr_split p.number (w - p.length) in
      let b = shr_split q.number (w - p.length) in
      let c : q.number % 2 ^ (w - p.length) ≡ 0 = subst (λ (k : ℕ). q.number % 2 ^ (w - k) ≡ 0) (sym l) (tail q) in
      let m = ap (λ (x : ℕ). x * 2 ^ (w - p.length)) d in
      same_prefix p q l (omega (arith, tail p))

-- what prefixes mean, by their bits
abbrev pub prefix_spelling : (w s : ℕ) {V : Type 0} → Numbering V → Spelling (Prefix w s) V
prefix_spelling w s g = record {
  nest = prefix_nest w s g;
  width = min w 32;
  path = path w s;
  spell = λ v. spell w (g.number v);
  narrow = omega arith;
  full = λ v. spell_length w (g.number v);
  short = λ p. omega (arith, path_length w s p, short p, low p);
  one = one w s;
  hit = λ p v. hit w s p (g.number v);
  hits = λ p v. hits w s p (g.number v);
  covered = covered w s;
  covers = covers w s;
}
