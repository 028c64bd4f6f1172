-- Parts that are read one after another.
use Rattle.std.proofs.Common.{◌≡◌, ℕ, ◌+◌, List, [], ◌∷◌, ◌++◌, length, subst, inl, inr, arith}
use Rattle.sheets.specs.Words.{rest}
use Rattle.sheets.specs.Reading.{at, parts, pattern_at, address_at, rule_at}
use Rattle.sheets.specs.declared.part.Side.{Side}
use Rattle.sheets.specs.declared.part.Side.TheVariants.{Source, Destination}
use Rattle.sheets.specs.declared.part.Part.{Part}
use Rattle.sheets.specs.declared.part.Part.TheVariants.{Upper, Lower, Port, Protocol}
use Rattle.sheets.specs.declared.row.PatternRow.{PatternRow}
use Rattle.sheets.specs.declared.fault.Fault.{Fault}
use Rattle.reader.specs.Readers.{Passes, Fails}

module _ (ws : List ℕ) where
  pub passes_then : (ps qs : List Part) (i j : ℕ) → i + length ps ≡ j → Passes ws ps i → Passes ws qs j → Passes ws (ps ++ qs) i
  unfolding Passes Fails
  passes_then [] qs i j e a b = let k : j ≡ i = omega arith in subst (Passes ws qs) k b
  passes_then (p ∷ ps) qs i j e (a, t) b = (a, passes_then ps qs (i + 1) j (omega arith) t b)

  fails_then : (ps qs : List Part) (i j : ℕ) (f : Fault) → i + length ps ≡ j → Passes ws ps i → Fails ws qs j f → Fails ws (ps ++ qs) i f
  unfolding Passes Fails
  fails_then [] qs i j f e a h = let k : j ≡ i = omega arith in subst (λ (m : ℕ). Fails ws qs m f) k h
  fails_then (p ∷ ps) qs i j f e (a, t) h = inr (a, fails_then ps qs (i + 1) j f (omega arith) t h)

  fails_first : (ps qs : List Part) (i : ℕ) (f : Fault) → Fails ws ps i f → Fails ws (ps ++ qs) i f
  unfolding Passes Fails
  fails_first [] qs i f h = absurd h
  fails_first (p ∷ ps) qs i f (inl h) = inl h
  fails_first (p ∷ ps) qs i f (inr (a, h)) = inr (a, fails_first ps qs (i + 1) f h)

  -- the parts ps pass, one of qs fails, and the others are not reached
  pub fails_within : (ps qs os : List Part) (i j : ℕ) (f : Fault) → i + length ps ≡ j → Passes ws ps i → Fails ws qs j f → Fails ws (ps ++ (qs ++ os)) i f
  fails_within ps qs os i j f e a h = fails_then ps (qs ++ os) i j f e a (fails_first qs os j f h)

-- ---- the parts of the rule whose number is at place i
abbrev address : Side → List Part
address s = Upper s ∷ Lower s ∷ []

abbrev addresses : List Part
addresses = address Source ++ address Destination

module _ (ws : List ℕ) (i : ℕ) where
  pub rule_made : {n : ℕ} {a b c d e : PatternRow} → n ≡ rest (at ws i) → a ≡ address_at ws (i + 1) → b ≡ address_at ws (i + 3)
      → c ≡ pattern_at ws (i + 5) → d ≡ pattern_at ws (i + 6) → e ≡ pattern_at ws (i + 7)
      → record { number = n; addresses = record { source = a; destination = b }; ports = record { source = c; destination = d }; protocol = e } ≡ rule_at ws i
  rule_made n a b c d e =
      λ k. record { number = n k; addresses = record { source = a k; destination = b k }; ports = record { source = c k; destination = d k }; protocol = e k }

  passes_none : Passes ws [] (i + 1)
  unfolding Passes
  passes_none = tt

  pub from_fails : (f : Fault) → Fails ws (address Source) (i + 1) f → Fails ws parts (i + 1) f
  from_fails f h = fails_within ws [] (address Source) (address Destination ++ (Port Source ∷ Port Destination ∷ Protocol ∷ [])) (i + 1) (i + 1) f (omega arith) passes_none h

  module _ (a : Passes ws (address Source) (i + 1)) where
    pub to_fails : (f : Fault) → Fails ws (address Destination) (i + 3) f → Fails ws parts (i + 1) f
    to_fails f h = fails_within ws (address Source) (address Destination) (Port Source ∷ Port Destination ∷ Protocol ∷ []) (i + 1) (i + 3) f (omega arith) a h

    module _ (b : Passes ws (address Destination) (i + 3)) where
      addresses_pass : Passes ws addresses (i + 1)
      addresses_pass = passes_then ws (address Source) (address Destination) (i + 1) (i + 3) (omega arith) a b

      pub from_port_fails : (f : Fault) → Fails ws (Port Source ∷ []) (i + 5) f → Fails ws parts (i + 1) f
      from_port_fails f h = fails_within ws addresses (Port Source ∷ []) (Port Destination ∷ Protocol ∷ []) (i + 1) (i + 5) f (omega arith) addresses_pass h

      module _ (c : Passes ws (Port Source ∷ []) (i + 5)) where
        from_passes : Passes ws (addresses ++ (Port Source ∷ [])) (i + 1)
        from_passes = passes_then ws addresses (Port Source ∷ []) (i + 1) (i + 5) (omega arith) addresses_pass c

        pub to_port_fails : (f : Fault) → Fails ws (Port Destination ∷ []) (i + 6) f → Fails ws parts (i + 1) f
        to_port_fails f h = fails_within ws (addresses ++ (Port Source ∷ [])) (Port Destination ∷ []) (Protocol ∷ []) (i + 1) (i + 6) f (omega arith) from_passes h

        module _ (d : Passes ws (Port Destination ∷ []) (i + 6)) where
          ports_pass : Passes ws (addresses ++ (Port Source ∷ Port Destination ∷ [])) (i + 1)
          ports_pass = passes_then ws (addresses ++ (Port Source ∷ [])) (Port Destination ∷ []) (i + 1) (i + 6) (omega arith) from_passes d

          pub last_fails : (f : Fault) → Fails ws (Protocol ∷ []) (i + 7) f → Fails ws parts (i + 1) f
          last_fails f h = fails_within ws (addresses ++ (Port Source ∷ Port Destination ∷ [])) (Protocol ∷ []) [] (i + 1) (i + 7) f (omega arith) ports_pass h

          pub parts_pass : Passes ws (Protocol ∷ []) (i + 7) → Passes ws parts (i + 1)
          parts_pass e = passes_then ws (addresses ++ (Port Source ∷ Port Destination ∷ [])) (Protocol ∷ []) (i + 1) (i + 7) (omega arith) ports_pass e

-- what the parts of a rule come to, one after another
pub ruleset rule_read = (from_fails, to_fails, from_port_fails, to_port_fails, last_fails, parts_pass)
