-- What the making of a pattern tells of its length and its bits.
use Rattle.std.proofs.Common.{◌≡◌, ℕ, true, false, ◌⊎◌, Ok, Err, refl, inl, inr, ⊎_elim}
use Rattle.std.proofs.lemmas.Bool.{cases_Bool}
use Rattle.fields.specs.Lengths.{has, clean}
use Rattle.fields.specs.Prefixes.{make}
use Rattle.fields.specs.PrefixLaws.{make_is, make_lacks, make_beyond}
use Rattle.fields.specs.declared.prefix.Prefix.{Prefix}
use Rattle.fields.specs.declared.refusal.Refusal.TheVariants.{Length, BitBeyond}

module _ (w s l n : ℕ) where
  abbrev Lacks : Type 0
  Lacks = (has w s l ≡ false) × (make w s l n ≡ Err Length)

  abbrev Passes : Type 0
  Passes = (has w s l ≡ true) × (clean w l n ≡ false) × (make w s l n ≡ Err BitBeyond)

  abbrev Fits : Type 0
  Fits = (has w s l ≡ true) × (clean w l n ≡ true) × ((p : Prefix w s) × (make w s l n ≡ Ok p))

  -- the three ways that making a pattern goes
  pub make_ways : Lacks ⊎ (Passes ⊎ Fits)
  make_ways = ⊎_elim
      (λ h. inr (⊎_elim
      (λ c. let p : Prefix w s = record { length = l; number = n; known = h; plain = c } in inr (h, c, (p, make_is w s l n p refl refl)))
      (λ c. inl (h, c, make_beyond w s l n h c))
      (cases_Bool (clean w l n))))
      (λ h. inl (h, make_lacks w s l n h))
      (cases_Bool (has w s l))
