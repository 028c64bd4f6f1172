-- The last label on the way along bits is that of the longest of their fronts that has one.
use Rattle.std.proofs.Common.{◌≡◌, ℕ, zero, suc, ◌<◌, ◌≤◌, Bool, List, [], ◌∷◌, length, take, Some, None, Option, option_and_then, sym, refl, ap, ◌∙◌, arith}
use Rattle.std.specs.Option.{option_or}
use Rattle.fields.specs.declared.numbers.Label.{Label}
use Rattle.tries.specs.Nodes.{kid, tag, look, deepest}
use Rattle.tries.specs.declared.node.Node.{Node}

module _ (nodes : List Node) where
  -- the first n bits have the label, and no more bits have one
  pub record Longest (i : ℕ) (bs : List Bool) (l : Label) (n : ℕ) : Type 0 where
    pub short : n ≤ length bs
    pub here : look nodes i (take n bs) ≡ Some l
    pub after : (m : ℕ) → n < m → m ≤ length bs → look nodes i (take m bs) ≡ None

  -- or no front has one
  abbrev pub Deepest : ℕ → List Bool → Option Label → Type 0
  Deepest i bs (Some l) = (n : ℕ) × Longest i bs l n
  Deepest i bs None = (m : ℕ) → m ≤ length bs → look nodes i (take m bs) ≡ None

  module _ (i : ℕ) (bs : List Bool) (h : (m : ℕ) → m < length bs → look nodes i (take (suc m) bs) ≡ None) where
    beyond : (m : ℕ) → 0 < m → m ≤ length bs → look nodes i (take m bs) ≡ None
    beyond zero l le = absurd (omega arith)
    beyond (suc m) l le = h m (omega arith)

    -- where only the first node can have a label
    alone : (t : Option Label) → tag nodes i ≡ t → Deepest i bs t
    alone (Some l) e = (0, record { short = omega arith; here = e; after = beyond })
    alone None e = upto
      where
        upto : (m : ℕ) → m ≤ length bs → look nodes i (take m bs) ≡ None
        upto zero le = e
        upto (suc m) le = h m (omega arith)

  module _ (i : ℕ) (b : Bool) (bs : List Bool) where
    -- one more bit, where a node is further on
    module _ (k : ℕ) (e : kid nodes i b ≡ Some k) where
      on : (m : ℕ) → look nodes i (take (suc m) (b ∷ bs)) ≡ look nodes k (take m bs)
      on m = ap (option_and_then (λ j. look nodes j (take m bs))) e

      after_on : (n m : ℕ) → ((j : ℕ) → n < j → j ≤ length bs → look nodes k (take j bs) ≡ None) → suc n < m → m ≤ suc (length bs) → look nodes i (take m (b ∷ bs)) ≡ None
      after_on n zero h l le = absurd (omega arith)
      after_on n (suc m) h l le = on m ∙ h m (omega arith) (omega arith)

      deep_on : (r : Option Label) → Deepest k bs r → Deepest i (b ∷ bs) (option_or r (tag nodes i))
      deep_on None d = alone i (b ∷ bs) (λ m l. on m ∙ d m (omega arith)) (tag nodes i) refl
      deep_on (Some l) d = (
        suc d.0,
        record {
          short = omega (arith, d.1.short);
          here = on d.0 ∙ d.1.here;
          after = λ m lt le. after_on d.0 m d.1.after lt le;
        },
      )

    further : (o : Option ℕ) → kid nodes i b ≡ o → ((k : ℕ) → Deepest k bs (deepest nodes k bs)) → Deepest i (b ∷ bs) (option_or (option_and_then (λ k. deepest nodes k bs) o) (tag nodes i))
    further None e d = alone i (b ∷ bs) (λ m l. ap (option_and_then (λ k. look nodes k (take m bs))) e) (tag nodes i) refl
    further (Some k) e d = deep_on k e (deepest nodes k bs) (d k)

  pub deep_is : (i : ℕ) (bs : List Bool) → Deepest i bs (deepest nodes i bs)
  deep_is i [] = alone i [] (λ m l. absurd (omega arith)) (tag nodes i) refl
  deep_is i (b ∷ bs) = further i b bs (kid nodes i b) refl (λ k. deep_is k bs)

-- a walk that keeps the last label that it saw, that of the node where it stands first
or_or : {X : Type 0} (a b c : Option X) → option_or (option_or a b) c ≡ option_or a (option_or b c)
or_or (Some x) b c = refl
or_or None b c = refl

pub or_again : {X : Type 0} (a b : Option X) → option_or a (option_or a b) ≡ option_or a b
or_again (Some x) b = refl
or_again None b = refl

pub or_same : {X : Type 0} (a : Option X) → option_or a a ≡ a
or_same (Some x) = refl
or_same None = refl

module _ (nodes : List Node) where
  pub deep_own : (i : ℕ) (bs : List Bool) → deepest nodes i bs ≡ option_or (deepest nodes i bs) (tag nodes i)
  deep_own i [] = sym (or_same (tag nodes i))
  deep_own i (b ∷ bs) = sym (or_or _ (tag nodes i) (tag nodes i) ∙ ap (option_or _) (or_same (tag nodes i)))

  module _ (i : ℕ) (b : Bool) (bs : List Bool) (found : Option Label) (own : option_or (tag nodes i) found ≡ found) where
    pub deep_next : (k : ℕ) → kid nodes i b ≡ Some k → option_or (deepest nodes i (b ∷ bs)) found ≡ option_or (deepest nodes k bs) (option_or (tag nodes k) found)
    deep_next k e =
        ap (λ o. option_or (option_or (option_and_then (λ j. deepest nodes j bs) o) (tag nodes i)) found) e
        ∙ or_or (deepest nodes k bs) (tag nodes i) found
        ∙ ap (option_or (deepest nodes k bs)) own
        ∙ ap (λ o. option_or o found) (deep_own k bs)
        ∙ or_or (deepest nodes k bs) (tag nodes k) found

    pub deep_last : kid nodes i b ≡ None → option_or (deepest nodes i (b ∷ bs)) found ≡ found
    deep_last e = ap (λ o. option_or (option_or (option_and_then (λ j. deepest nodes j bs) o) (tag nodes i)) found) e ∙ own

pub ruleset deep_steps = (or_again, or_same, deep_own, deep_next, deep_last)
