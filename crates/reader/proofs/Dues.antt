-- What is wrong with the word of a part: its form first, then the pattern that its kind makes of it.
use Rattle.std.proofs.Common.{◌≡◌, ℕ, ◌+◌, ◌*◌, ◌^◌, true, cond, not, List, [], ◌∷◌, Some, None, Option, sym, ◌∙◌, inl, inr, arith}
use native.Mathlib.Nat.{zero-mod}
use Rattle.fields.specs.Lengths.{has, clean}
use Rattle.fields.specs.Prefixes.{make}
use Rattle.fields.specs.Refusals.{first, refusal}
use Rattle.sheets.specs.Rows.{or_else}
use Rattle.sheets.specs.Words.{size, low}
use Rattle.sheets.specs.Reading.{at, lacking, passing}
use Rattle.sheets.specs.declared.part.Side.{Side}
use Rattle.sheets.specs.declared.part.Part.{Part}
use Rattle.sheets.specs.declared.part.Part.TheVariants.{Upper, Lower, Port, Protocol}
use Rattle.sheets.specs.declared.fault.Fault.{Fault}
use Rattle.sheets.proofs.Patterns.{make_ways}
use Rattle.reader.specs.Readers.{Refused, Passes, Fails, form_refusal, due_refusal}

-- ---- d is the refusal o, or else p
module _ (o p d : Option ℕ) (is : or_else o p ≡ d) where
  none_due : o ≡ None → p ≡ None → d ≡ None
  none_due a b = sym is ∙ rw (a, b)

  first_due : (i : ℕ) (f : Fault) → Refused o i f → Refused d i f
  unfolding Refused
  first_due i f (e, a, b) = (e, a, sym is ∙ rw b)

  second_due : (i : ℕ) (f : Fault) → o ≡ None → Refused p i f → Refused d i f
  unfolding Refused
  second_due i f n (e, a, b) = (e, a, sym is ∙ rw (n, b))

-- ---- what a kind makes of a length and a number
module _ (w s l n : ℕ) where
  -- the tests 2 and 3
  abbrev pattern_refusal : Option ℕ
  pattern_refusal = first (record { fails = not (has w s l); refuses = 2 } ∷ record { fails = not (clean w l n); refuses = 3 } ∷ [])

  refusal_make : refusal (make w s l n) ≡ pattern_refusal
  refusal_make = grind (arith, make_ways)

  made_has : refusal (make w s l n) ≡ None → has w s l ≡ true
  made_has e = grind (arith, refusal_make)

module _ (ws : List ℕ) where
  part_due : (p : Part) (i : ℕ) → or_else (form_refusal ws p i) (cond (lacking ws p i) (Some 2) (cond (passing ws p i) (Some 3) None)) ≡ due_refusal ws p i
  part_due p i = grind arith

  -- the patterns that take one word
  port_due : (s : Side) (i : ℕ) → or_else (form_refusal ws (Port s) i) (refusal (make 16 1 (size (at ws i)) (low (at ws i)))) ≡ due_refusal ws (Port s) i
  port_due s i = grind (arith, refusal_make, part_due)

  protocol_due : (i : ℕ) → or_else (form_refusal ws Protocol i) (refusal (make 8 8 (size (at ws i)) (low (at ws i)))) ≡ due_refusal ws Protocol i
  protocol_due i = grind (arith, refusal_make, part_due)

  -- an address: its length is looked at with the upper half, and its number with the lower
  upper_due : (s : Side) (i : ℕ) → or_else (form_refusal ws (Upper s) i) (refusal (make 32 1 (size (at ws i)) 0)) ≡ due_refusal ws (Upper s) i
  upper_due s i = grind (arith, refusal_make, zero-mod)

  lower_due : (s : Side) (i : ℕ) → has 32 1 (size (at ws i)) ≡ true
      → or_else (form_refusal ws (Lower s) (i + 1)) (refusal (make 32 1 (size (at ws i)) (low (at ws i) * 2 ^ 16 + low (at ws (i + 1))))) ≡ due_refusal ws (Lower s) (i + 1)
  lower_due s i h = grind (arith, refusal_make)

-- ---- the two words of an address
module _ (ws : List ℕ) (s : Side) (i : ℕ) where
  abbrev halves : List Part
  halves = Upper s ∷ Lower s ∷ []

  pub upper_out_of_form : (f : Fault) → Refused (form_refusal ws (Upper s) i) i f → Fails ws halves i f
  unfolding Fails
  upper_out_of_form f h = inl (first_due _ _ _ (upper_due ws s i) i f h)

  pub upper_lacking : (f : Fault) → form_refusal ws (Upper s) i ≡ None → Refused (refusal (make 32 1 (size (at ws i)) 0)) i f → Fails ws halves i f
  unfolding Fails
  upper_lacking f a h = inl (second_due _ _ _ (upper_due ws s i) i f a h)

  module _ (a : form_refusal ws (Upper s) i ≡ None) (b : refusal (make 32 1 (size (at ws i)) 0) ≡ None) where
    abbrev number : ℕ
    number = low (at ws i) * 2 ^ 16 + low (at ws (i + 1))

    upper_none : due_refusal ws (Upper s) i ≡ None
    upper_none = none_due _ _ _ (upper_due ws s i) a b

    lower_number : or_else (form_refusal ws (Lower s) (i + 1)) (refusal (make 32 1 (size (at ws i)) number)) ≡ due_refusal ws (Lower s) (i + 1)
    lower_number = lower_due ws s i (made_has 32 1 (size (at ws i)) 0 b)

    pub lower_out_of_form : (f : Fault) → Refused (form_refusal ws (Lower s) (i + 1)) (i + 1) f → Fails ws halves i f
    unfolding Fails
    lower_out_of_form f h = inr (upper_none, inl (first_due _ _ _ lower_number (i + 1) f h))

    pub lower_passing : (f : Fault) → form_refusal ws (Lower s) (i + 1) ≡ None → Refused (refusal (make 32 1 (size (at ws i)) number)) (i + 1) f → Fails ws halves i f
    unfolding Fails
    lower_passing f o h = inr (upper_none, inl (second_due _ _ _ lower_number (i + 1) f o h))

    pub halves_pass : form_refusal ws (Lower s) (i + 1) ≡ None → refusal (make 32 1 (size (at ws i)) number) ≡ None → Passes ws halves i
    unfolding Passes
    halves_pass o h = (upper_none, (none_due _ _ _ lower_number o h, tt))

-- ---- a part of one word
module _ (ws : List ℕ) (i : ℕ) where
  lone_fails : (p : Part) (f : Fault) (o : Option ℕ) → o ≡ due_refusal ws p i → Refused o i f → Fails ws (p ∷ []) i f
  unfolding Fails Refused
  lone_fails p f o e (r, a, b) = inl (r, a, sym e ∙ b)

  lone_passes : (p : Part) (o : Option ℕ) → o ≡ due_refusal ws p i → o ≡ None → Passes ws (p ∷ []) i
  unfolding Passes
  lone_passes p o e n = (sym e ∙ n, tt)

  pub port_fails : (s : Side) (f : Fault) → Refused (or_else (form_refusal ws (Port s) i) (refusal (make 16 1 (size (at ws i)) (low (at ws i))))) i f → Fails ws (Port s ∷ []) i f
  port_fails s f h = lone_fails (Port s) f _ (port_due ws s i) h

  pub port_passes : (s : Side) → or_else (form_refusal ws (Port s) i) (refusal (make 16 1 (size (at ws i)) (low (at ws i)))) ≡ None → Passes ws (Port s ∷ []) i
  port_passes s h = lone_passes (Port s) _ (port_due ws s i) h

  pub protocol_fails : (f : Fault) → Refused (or_else (form_refusal ws Protocol i) (refusal (make 8 8 (size (at ws i)) (low (at ws i))))) i f → Fails ws (Protocol ∷ []) i f
  protocol_fails f h = lone_fails Protocol f _ (protocol_due ws i) h

  pub protocol_passes : or_else (form_refusal ws Protocol i) (refusal (make 8 8 (size (at ws i)) (low (at ws i)))) ≡ None → Passes ws (Protocol ∷ []) i
  protocol_passes h = lone_passes Protocol _ (protocol_due ws i) h

-- what the two words of an address come to
pub ruleset halves_read = (upper_out_of_form, upper_lacking, lower_out_of_form, lower_passing, halves_pass)

-- what a word that is a whole part comes to
pub ruleset lone_read = (port_fails, port_passes, protocol_fails, protocol_passes)
