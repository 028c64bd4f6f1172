-- That prefixes keep the laws of a field kind. Proofs alone: what is to be believed stands in Prefixes and Nest.
use Rattle.std.specs.Prelude.{◌≡◌, ℕ, ◌+◌, ◌-◌, ◌*◌, ◌/◌, ◌%◌, ◌^◌, ◌<◌, ◌≤◌, Bool, true, false, ◌⊎◌, Ok, Err, nat_le}
use Rattle.std.proofs.Math.Path.{refl}
use Rattle.std.proofs.Common.{sym, ap, ◌∙◌, subst, inl, inr, ⊎_elim, mod-eq_of_lt, arith}
use Rattle.std.proofs.Math.Bool.{Bool-set}
use mathlib.Core.HLevel.{is_prop→PathP}
use Rattle.std.proofs.Math.Nat.{div-eq_of_lt, zero-mod}
use borrow.Author.Tests.{eq-eqb, eqb-true}
use Rattle.std.proofs.lemmas.Nat.{shr-shr, shr_split, pow_pos, mod_below}
use Rattle.std.proofs.lemmas.Bool.{leb-true, le-leb, ltb-true, lt-ltb, and_parts, and_from, cases_lt, false≢true}
use Rattle.fields.specs.Lengths.{has, clean, first_bits}
use Rattle.fields.specs.Nest.{Nest}
use Rattle.fields.specs.Numbering.{Numbering}
use Rattle.fields.specs.Prefixes.{matches, within, make, make_known, make_clean}
use Rattle.fields.specs.declared.prefix.Prefix.{Prefix}
use Rattle.fields.specs.declared.refusal.Refusal.{Refusal}
use Rattle.fields.specs.declared.refusal.Refusal.TheVariants.{Length, BitBeyond}

-- what agrees in its first bits agrees in fewer of them
coarser : (w l m x y : ℕ) → l ≤ m → m ≤ w → first_bits w m x ≡ first_bits w m y → first_bits w l x ≡ first_bits w l y
coarser w l m x y a b e =
    let s : w - l ≡ (w - m) + (m - l) = omega arith in
    let split : (n : ℕ) → first_bits w l n ≡ n / 2 ^ (w - m) / 2 ^ (m - l) = λ n. ap (λ (k : ℕ). n / 2 ^ k) s ∙ sym (shr-shr n (w - m) (m - l)) in
    split x ∙ ap (λ (k : ℕ). k / 2 ^ (m - l)) e ∙ sym (split y)

-- no bit is the first of no bits
no_bits : (w n : ℕ) → n < 2 ^ w → first_bits w 0 n ≡ first_bits w 0 0
no_bits w n h =
    let e : w - 0 ≡ w = omega arith in
    let zeros : (k : ℕ) → k < 2 ^ w → first_bits w 0 k ≡ 0 = λ k l. ap (λ (m : ℕ). k / 2 ^ m) e ∙ div-eq_of_lt l in
    zeros n h ∙ sym (zeros 0 (pow_pos w))

module _ {w s : ℕ} where
  pub short : (p : Prefix w s) → p.length ≤ w
  short p = leb-true _ _ (and_parts _ _ p.known).0

  pub low : (p : Prefix w s) → p.length ≤ 32
  low p = leb-true _ _ (and_parts _ _ (and_parts _ _ p.known).1).0

  pub fits : (p : Prefix w s) → p.number < 2 ^ w
  fits p = ltb-true _ _ (and_parts _ _ p.plain).0

  pub tail : (p : Prefix w s) → p.number % 2 ^ (w - p.length) ≡ 0
  tail p = eqb-true _ _ (and_parts _ _ p.plain).1

  -- two patterns of one length and one number are one
  pub same_prefix : (p q : Prefix w s) → p.length ≡ q.length → p.number ≡ q.number → p ≡ q
  same_prefix p q e n = λ j. record {
    length = e j;
    number = n j;
    known = is_prop→PathP (λ k. has w s (e k) ≡ true) (λ k. Bool-set _ _) p.known q.known j;
    plain = is_prop→PathP (λ k. clean w (e k) (n k) ≡ true) (λ k. Bool-set _ _) p.plain q.plain j;
  }

  pub within_from : (p q : Prefix w s) → q.length ≤ p.length → first_bits w q.length p.number ≡ first_bits w q.length q.number → within w s p q ≡ true
  unfolding within
  within_from p q l e = and_from _ _ (le-leb _ _ l) (eq-eqb _ _ e)

  pub within_shorter : (p q : Prefix w s) → within w s p q ≡ true → q.length ≤ p.length
  unfolding within
  within_shorter p q h = leb-true _ _ (and_parts _ _ h).0

  pub within_agrees : (p q : Prefix w s) → within w s p q ≡ true → first_bits w q.length p.number ≡ first_bits w q.length q.number
  unfolding within
  within_agrees p q h = eqb-true _ _ (and_parts (nat_le q.length p.length) _ h).1

  pub matches_from : (p : Prefix w s) (v : ℕ) → first_bits w p.length p.number ≡ first_bits w p.length (v % 2 ^ w) → matches w s p v ≡ true
  unfolding matches
  matches_from p v e = eq-eqb _ _ e

  pub matches_agrees : (p : Prefix w s) (v : ℕ) → matches w s p v ≡ true → first_bits w p.length p.number ≡ first_bits w p.length (v % 2 ^ w)
  unfolding matches
  matches_agrees p v h = eqb-true _ _ h

  pub antisymmetric : (p q : Prefix w s) → within w s p q ≡ true → within w s q p ≡ true → p ≡ q
  antisymmetric p q a b =
      let l : p.length ≡ q.length = omega (arith, within_shorter p q a, within_shorter q p b) in
      let d = within_agrees p q a in
      let x = shr_split p.number (w - q.length) in
      let y = shr_split q.number (w - q.length) in
      let c : p.number % 2 ^ (w - q.length) ≡ 0 = subst (λ (k : ℕ). p.number % 2 ^ (w - k) ≡ 0) l (tail p) in
      let m = ap (λ (k : ℕ). k * 2 ^ (w - q.length)) d in
      same_prefix p q l (omega (arith, tail q))

  pub within_trans : (p q r : Prefix w s) → within w s p q ≡ true → within w s q r ≡ true → within w s p r ≡ true
  within_trans p q r a b =
      within_from p r (omega (arith, within_shorter p q a, within_shorter q r b))
      (coarser w r.length q.length p.number q.number (within_shorter q r b) (short q) (within_agrees p q a) ∙ within_agrees q r b)

  pub wider : (p q : Prefix w s) (v : ℕ) → within w s p q ≡ true → matches w s p v ≡ true → matches w s q v ≡ true
  wider p q v a b =
      matches_from q v (sym (within_agrees p q a) ∙ coarser w q.length p.length p.number (v % 2 ^ w) (within_shorter p q a) (short p) (matches_agrees p v b))

  one_nests : (p q : Prefix w s) (v : ℕ) → matches w s p v ≡ true → matches w s q v ≡ true → q.length ≤ p.length → within w s p q ≡ true
  one_nests p q v a b l =
      within_from p q l (coarser w q.length p.length p.number (v % 2 ^ w) l (short p) (matches_agrees p v a) ∙ sym (matches_agrees q v b))

  pub nested : (p q : Prefix w s) (v : ℕ) → matches w s p v ≡ true → matches w s q v ≡ true → (within w s p q ≡ true) ⊎ (within w s q p ≡ true)
  nested p q v a b = ⊎_elim
      (λ (l : p.length < q.length). inr (one_nests q p v b a (omega arith)))
      (λ (l : q.length ≤ p.length). inl (one_nests p q v a b l))
      (cases_lt p.length q.length)

unfoldable pub whole : (w s : ℕ) → Prefix w s
whole w s = record {
  length = 0;
  number = 0;
  known = and_from _ _ (le-leb 0 w (omega arith)) refl;
  plain = and_from _ _ (lt-ltb 0 (2 ^ w) (pow_pos w)) (eq-eqb _ _ (zero-mod (2 ^ (w - 0))));
}

module _ (w s : ℕ) where
  pub outermost : (p : Prefix w s) → within w s p (whole w s) ≡ true
  unfolding whole
  outermost p = within_from p (whole w s) (omega arith) (no_bits w p.number (fits p))

  pub everything : (v : ℕ) → matches w s (whole w s) v ≡ true
  unfolding whole
  everything v = matches_from (whole w s) v (sym (no_bits w (v % 2 ^ w) (mod_below v (2 ^ w) (pow_pos w))))

  -- the value that a pattern's own number is
  pub own : (p : Prefix w s) (v : ℕ) → v ≡ p.number → matches w s p v ≡ true
  own p v e = matches_from p v (ap (first_bits w p.length) (sym (ap (λ (n : ℕ). n % 2 ^ w) e ∙ mod-eq_of_lt (fits p))))

module _ (w s l n : ℕ) where
  pub make_at_clean : (h : has w s l ≡ true) (b : Bool) (c : clean w l n ≡ b) (p : Prefix w s) → p.length ≡ l → p.number ≡ n → make_clean w s l n h b c ≡ Ok p
  make_at_clean h true c p x y = ap Ok (same_prefix _ p (sym x) (sym y))
  make_at_clean h false c p x y = absurd (false≢true (sym c ∙ subst (λ (k : ℕ). clean w k n ≡ true) x (subst (λ (m : ℕ). clean w p.length m ≡ true) y p.plain)))

  pub make_at_known : (b : Bool) (h : has w s l ≡ b) (p : Prefix w s) → p.length ≡ l → p.number ≡ n → make_known w s l n b h ≡ Ok p
  make_at_known true h p x y = make_at_clean h (clean w l n) refl p x y
  make_at_known false h p x y = absurd (false≢true (sym h ∙ subst (λ (k : ℕ). has w s k ≡ true) x p.known))

  -- the pattern of this length and this number is the one that is made
  pub make_is : (p : Prefix w s) → p.length ≡ l → p.number ≡ n → make w s l n ≡ Ok p
  unfolding make
  make_is p x y = make_at_known (has w s l) refl p x y

  told_clean : (h : has w s l ≡ true) (b : Bool) (c : clean w l n ≡ b) (p : Prefix w s) → make_clean w s l n h b c ≡ Ok p → (p.length ≡ l) × (p.number ≡ n)
  told_clean h true c p e =
      let f : record { length = l; number = n; known = h; plain = c } ≡ p = cc in
      (sym (ap (λ (q : Prefix w s). q.length) f), sym (ap (λ (q : Prefix w s). q.number) f))
  told_clean h false c p e = let z : ◌≡◌ {A = ℕ} 0 1 = cc in absurd (omega arith)

  told_known : (b : Bool) (h : has w s l ≡ b) (p : Prefix w s) → make_known w s l n b h ≡ Ok p → (p.length ≡ l) × (p.number ≡ n)
  told_known true h p e = told_clean h (clean w l n) refl p e
  told_known false h p e = let z : ◌≡◌ {A = ℕ} 0 1 = cc in absurd (omega arith)

  pub told : (p : Prefix w s) → make w s l n ≡ Ok p → (p.length ≡ l) × (p.number ≡ n)
  unfolding make
  told p e = told_known (has w s l) refl p e

  refused_clean : (h : has w s l ≡ true) (b : Bool) (c : clean w l n ≡ b) (r : Refusal) → make_clean w s l n h b c ≡ Err r → r ≡ BitBeyond
  refused_clean h true c r e = let z : ◌≡◌ {A = ℕ} 0 1 = cc in absurd (omega arith)
  refused_clean h false c r e = cc

  refused_known : (b : Bool) (h : has w s l ≡ b) (r : Refusal) → make_known w s l n b h ≡ Err r → (r ≡ Length) ⊎ (r ≡ BitBeyond)
  refused_known true h r e = inr (refused_clean h (clean w l n) refl r e)
  refused_known false h r e = inl (cc)

  pub refused : (r : Refusal) → make w s l n ≡ Err r → (r ≡ Length) ⊎ (r ≡ BitBeyond)
  unfolding make
  refused r e = refused_known (has w s l) refl r e

  lacks_known : (b : Bool) (h : has w s l ≡ b) → has w s l ≡ false → make_known w s l n b h ≡ Err Length
  lacks_known true h e = absurd (false≢true (sym e ∙ h))
  lacks_known false h e = refl

  -- what is refused for its length, and what for a bit
  pub make_lacks : has w s l ≡ false → make w s l n ≡ Err Length
  unfolding make
  make_lacks e = lacks_known (has w s l) refl e

  beyond_clean : (h : has w s l ≡ true) (b : Bool) (c : clean w l n ≡ b) → clean w l n ≡ false → make_clean w s l n h b c ≡ Err BitBeyond
  beyond_clean h true c e = absurd (false≢true (sym e ∙ c))
  beyond_clean h false c e = refl

  beyond_known : (b : Bool) (h : has w s l ≡ b) → has w s l ≡ true → clean w l n ≡ false → make_known w s l n b h ≡ Err BitBeyond
  beyond_known true h k e = beyond_clean h (clean w l n) refl e
  beyond_known false h k e = absurd (false≢true (sym h ∙ k))

  pub make_beyond : has w s l ≡ true → clean w l n ≡ false → make w s l n ≡ Err BitBeyond
  unfolding make
  make_beyond k e = beyond_known (has w s l) refl k e

-- what prefixes mean, with the laws, where V are the header values
abbrev pub prefix_nest : (w s : ℕ) {V : Type 0} → Numbering V → Nest (Prefix w s) V
prefix_nest w s g = record {
  within = within w s;
  matches = λ p v. matches w s p (g.number v);
  whole = whole w s;
  width = w;
  make = make w s;
  length = λ p. p.length;
  number = λ p. p.number;
  reflexive = λ p. within_from p p (omega arith) refl;
  transitive = within_trans;
  antisymmetric = antisymmetric;
  outermost = outermost w s;
  everything = λ v. everything w s (g.number v);
  wider = λ p q v. wider p q (g.number v);
  nested = λ p q v. nested p q (g.number v);
  inhabited = λ p. (g.value p.number, own w s p _ (g.back p.number));
  made = λ p. make_is w s p.length p.number p refl refl;
  told = told w s;
  refused = refused w s;
}
