-- What prefixes mean: the patterns of a kind of width w with the shortest length s, and header values of w bits.
use Rattle.std.specs.Prelude.{◌≡◌, ℕ, ◌%◌, ◌^◌, Bool, true, false, ◌&&◌, Ok, Err, Result, ◌==◌, nat_le, refl}
use Rattle.fields.specs.Lengths.{has, clean, first_bits}
use Rattle.fields.specs.declared.prefix.Prefix.{Prefix}
use Rattle.fields.specs.declared.refusal.Refusal.{Refusal}
use Rattle.fields.specs.declared.refusal.Refusal.TheVariants.{Length, BitBeyond}

-- a pattern matches the value of a number of w bits when their first bits agree, as many as the pattern is long
unfoldable pub matches : (w s : ℕ) → Prefix w s → ℕ → Bool
matches w s p v = first_bits w p.length p.number == first_bits w p.length (v % 2 ^ w)

-- p lies within q when p is at least as long and begins with q's bits
unfoldable pub within : (w s : ℕ) → Prefix w s → Prefix w s → Bool
within w s p q = nat_le q.length p.length && first_bits w q.length p.number == first_bits w q.length q.number

-- the pattern of the length l and the number n: refused where the kind lacks the length, else where a bit is set beyond it
module _ (w s l n : ℕ) where
  abbrev pub make_clean : has w s l ≡ true → (b : Bool) → clean w l n ≡ b → Result (Prefix w s) Refusal
  make_clean h true c = Ok (record { length = l; number = n; known = h; plain = c })
  make_clean h false c = Err BitBeyond

  abbrev pub make_known : (b : Bool) → has w s l ≡ b → Result (Prefix w s) Refusal
  make_known true h = make_clean h (clean w l n) refl
  make_known false h = Err Length

unfoldable pub make : (w s : ℕ) → ℕ → ℕ → Result (Prefix w s) Refusal
make w s l n = make_known w s l n (has w s l) refl
