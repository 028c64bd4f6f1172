-- Where the reading of a sheet stops, and what it then comes to.
use Rattle.std.proofs.Common.{◌≡◌, ℕ, ◌+◌, ◌-◌, ◌*◌, ◌/◌, ◌%◌, ◌<◌, true, false, cond, ◌&&◌, ◌||◌, eqb, leb, List, [], ◌∷◌, length, get_or, is_some, Some, None, Option, sym, refl, ap, ◌∙◌, subst, inl, inr, arith, below_more}
use Rattle.std.proofs.lemmas.Bool.{or_left, or_right, and_left}
use Rattle.fields.specs.Refusals.{code}
use Rattle.sheets.specs.Reading.{accepted, refused, fault, verdict, words_read, parts, ends, opening_refusal, part_refusal, word_refusal, last, stop, rules}
use Rattle.sheets.specs.declared.part.Part.{Part}
use Rattle.sheets.specs.declared.part.Part.TheVariants.{Protocol}
use Rattle.sheets.specs.declared.fault.Fault.{Fault}
use Rattle.sheets.proofs.Stops.{stop_is}
use Rattle.reader.specs.Readers.{Refused, Passes, Fails, due_refusal, opening_due, ComesTo, Broken}

module _ (ws : List ℕ) where
  -- the words before place n are in order, and none ends the sheet
  unfoldable pub Clear : ℕ → Type 0
  Clear n = (k : ℕ) → k < n → (word_refusal ws k ≡ None) × (last ws k ≡ false)

  pub clear_none : Clear 0
  unfolding Clear
  clear_none k h = absurd (omega arith)

  clear_more : (n : ℕ) → Clear n → word_refusal ws n ≡ None → last ws n ≡ false → Clear (n + 1)
  unfolding Clear
  clear_more n c a b = below_more (λ (k : ℕ). (word_refusal ws k ≡ None) × (last ws k ≡ false)) n c (a, b)

  clear_stop : (n : ℕ) → Clear n → (is_some (word_refusal ws n) || last ws n) ≡ true → stop ws 0 (length ws) ≡ n
  unfolding Clear
  clear_stop n c h = stop_is ws n (record { there = h; before = c })

  refused_as : (o p : Option ℕ) (i : ℕ) (f : Fault) → o ≡ p → Refused p i f → Refused o i f
  unfolding Refused
  refused_as o p i f e (r, a, b) = (r, a, e ∙ b)

  -- ---- what reading comes to: at a word that is out of order
  broken : (n : ℕ) (f : Fault) → Clear n → Refused (word_refusal ws n) n f → Broken ws f
  unfolding ComesTo Refused
  broken n f c (e, a, b) places =
      let s = clear_stop n c (or_left _ _ (ap is_some b)) in
      ap (λ (m : ℕ). verdict ws places m (word_refusal ws m)) s
      ∙ (ap (verdict ws places n) b ∙ ap (λ (g : Fault). refused (code g.refusal) g.place g.layer) (sym a))

  -- and at the end, which n rules come before
  pub ended : (n places : ℕ) → Clear (8 * n) → word_refusal ws (8 * n) ≡ None → last ws (8 * n) ≡ true
      → words_read ws places ≡ cond (eqb (8 * n + 1) (length ws)) (cond (leb n places) (accepted (rules ws n)) (fault 9 0)) (fault 15 (8 * n + 1))
  ended n places c a b =
      let s = clear_stop (8 * n) c (or_right _ _ b) in
      let d : 8 * n / 8 ≡ n = omega arith in
      ap (λ (m : ℕ). verdict ws places m (word_refusal ws m)) s
      ∙ (ap (verdict ws places (8 * n)) a
      ∙ ap (λ (m : ℕ). cond (eqb (8 * n + 1) (length ws)) (cond (leb m places) (accepted (rules ws m)) (fault 9 0)) (fault 15 (8 * n + 1))) d)

  -- ---- the words by their places
  word_by : ℕ → ℕ → Option ℕ
  word_by r j = cond (leb (length ws) j) (Some 15) (cond (eqb r 0) (opening_refusal ws j) (part_refusal ws (get_or parts (r - 1) Protocol) j))

  pub opening_word : (n : ℕ) → word_refusal ws (8 * n) ≡ opening_due ws (8 * n)
  unfolding word_by opening_due
  opening_word n = let e : 8 * n % 8 ≡ 0 = omega arith in grind arith

  pub opening_last : (n : ℕ) → last ws (8 * n) ≡ ends ws (8 * n)
  opening_last n = let e : 8 * n % 8 ≡ 0 = omega arith in grind arith

  -- these parts stand at the places from j on
  Placed : List Part → ℕ → Type 0
  Placed [] j = Unit {0}
  Placed (p ∷ ps) j = (word_refusal ws j ≡ due_refusal ws p j) × (last ws j ≡ false) × Placed ps (j + 1)

  placed_none : (j : ℕ) → Placed [] j
  unfolding Placed
  placed_none j = tt

  placed_more : (p : Part) (ps : List Part) (j r : ℕ) → j % 8 ≡ r → word_by r j ≡ due_refusal ws p j → eqb r 0 ≡ false → Placed ps (j + 1) → Placed (p ∷ ps) j
  unfolding Placed word_by
  placed_more p ps j r e a b h = (ap (λ (m : ℕ). word_by m j) e ∙ a, ap (λ (m : ℕ). eqb m 0 && ends ws j) e ∙ and_left (eqb r 0) (ends ws j) b, h)

  placed_parts : (n : ℕ) → Placed parts (8 * n + 1)
  unfolding word_by
  placed_parts n =
      placed_more _ _ _ 1 (omega arith) refl refl (placed_more _ _ _ 2 (omega arith) refl refl (placed_more _ _ _ 3 (omega arith) refl refl
      (placed_more _ _ _ 4 (omega arith) refl refl (placed_more _ _ _ 5 (omega arith) refl refl (placed_more _ _ _ 6 (omega arith) refl refl
      (placed_more _ _ _ 7 (omega arith) refl refl (placed_none _)))))))

  -- the words of parts that pass, and of parts of which one fails
  clear_parts : (ps : List Part) (j k : ℕ) → j + length ps ≡ k → Placed ps j → Clear j → Passes ws ps j → Clear k
  unfolding Placed Passes
  clear_parts [] j k e p c h = let i : j ≡ k = omega arith in subst Clear i c
  clear_parts (q ∷ ps) j k e (a, b, p) c (d, h) = clear_parts ps (j + 1) k (omega arith) p (clear_more j c (a ∙ d) b) h

  broken_parts : (ps : List Part) (j : ℕ) (f : Fault) → Placed ps j → Clear j → Fails ws ps j f → Broken ws f
  unfolding Placed Fails
  broken_parts [] j f p c h = absurd h
  broken_parts (q ∷ ps) j f (a, b, p) c (inl h) = broken j f c (refused_as _ _ j f a h)
  broken_parts (q ∷ ps) j f (a, b, p) c (inr (d, h)) = broken_parts ps (j + 1) f p (clear_more j c (a ∙ d) b) h

  -- ---- a rule, after n of them
  pub clear_rule : (n : ℕ) → Clear (8 * n) → opening_due ws (8 * n) ≡ None → ends ws (8 * n) ≡ false → Passes ws parts (8 * n + 1) → Clear (8 * (n + 1))
  clear_rule n c a b h = clear_parts parts (8 * n + 1) (8 * (n + 1)) (omega arith) (placed_parts n) (clear_more (8 * n) c (opening_word n ∙ a) (opening_last n ∙ b)) h

  pub stops_opening : (n : ℕ) (f : Fault) → Clear (8 * n) → Refused (opening_due ws (8 * n)) (8 * n) f → Broken ws f
  stops_opening n f c h = broken (8 * n) f c (refused_as _ _ (8 * n) f (opening_word n) h)

  pub stops_rule : (n : ℕ) (f : Fault) → Clear (8 * n) → opening_due ws (8 * n) ≡ None → ends ws (8 * n) ≡ false → Fails ws parts (8 * n + 1) f
      → Broken ws f
  stops_rule n f c a b h = broken_parts parts (8 * n + 1) f (placed_parts n) (clear_more (8 * n) c (opening_word n ∙ a) (opening_last n ∙ b)) h
