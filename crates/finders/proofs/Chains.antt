-- The way up from a label by its parents: with each step one label less lies around.
use Rattle.std.proofs.Common.{◌≡◌, ℕ, zero, suc, ◌<◌, ◌≤◌, Bool, true, false, cond, ◌||◌, eqb, List, [], ◌∷◌, length, get_or, Some, None, filter, Option, sym, refl, ap, ◌∙◌, subst, arith}
use lib.Dec.{eqb-zero-suc, eqb-suc-zero, eqb-suc-suc}
use Rattle.std.proofs.ByRecursion.{All-from_get_or}
use Rattle.std.proofs.lemmas.List.Sums.{length-filter, count_by-le-length}
use Rattle.std.proofs.lemmas.Bool.{and_right, not_from_true, both_ways, ne_eqb, cond_both}
use Rattle.fields.specs.Nest.{Nest}
use Rattle.levels.specs.Levels.{around}
use Rattle.levels.proofs.Counts.{kept_same, kept_none, or_false}
use Rattle.finders.specs.Finding.{parent_label}
use Rattle.finders.specs.Labels.{pattern_at, inside, Distinct, Above}
use Rattle.finders.specs.Chains.{onward, chain, Innermost, Way, ChainsTell}
use Rattle.finders.proofs.Labels.{itself_or, parents_tell_lem}

-- s passes what t does, and one element more, which stands at k
pub one_besides : {X : Type 0} (s t : X → Bool) (d : X) (xs : List X) (k : ℕ) → k < length xs → t (get_or xs k d) ≡ false → ((j : ℕ) → j < length xs → s (get_or xs j d) ≡ (eqb j k || t (get_or xs j d))) → length (filter s xs) ≡ suc (length (filter t xs))
one_besides s t d [] k l f h = absurd (omega arith)
one_besides s t d (x ∷ xs) zero l f h =
    rw (h 0 (omega arith), f) (ap (λ ys. suc (length ys)) (kept_same s t xs (All-from_get_or _ xs d (λ j m. h (suc j) (omega arith) ∙ ap (λ b. b || t (get_or xs j d)) (eqb-suc-zero j)))))
one_besides s t d (x ∷ xs) (suc k) l f h =
    rw (h 0 (omega arith), eqb-zero-suc k) (go (t x) (one_besides s t d xs k (omega arith) f (λ j m. h (suc j) (omega arith) ∙ ap (λ b. b || t (get_or xs j d)) (eqb-suc-suc j k))))
  where
    go : (b : Bool) → length (filter s xs) ≡ suc (length (filter t xs)) → length (cond b (x ∷ filter s xs) (filter s xs)) ≡ suc (length (cond b (x ∷ filter t xs) (filter t xs)))
    go true ih = ap suc ih
    go false ih = ih

module _ {P V : Type 0} (N : Nest P V) (held : List P) where
  -- how many labels lie around l, itself among them
  abbrev size : ℕ → ℕ
  size l = length (filter (N.within (pattern_at N held l)) held)

  module _ (l : ℕ) (low : l < length held) where
    -- around l are l itself and what passes t
    size_besides : (t : P → Bool) → t (pattern_at N held l) ≡ false → ((b : ℕ) → b < length held → inside N held l b ≡ (eqb b l || t (pattern_at N held b))) → size l ≡ suc (length (filter t held))
    size_besides t f h = one_besides (N.within (pattern_at N held l)) t N.whole held l low f h

    size_level : Distinct N held → size l ≡ suc (length (filter (around N.within (pattern_at N held l)) held))
    size_level apart = size_besides (around N.within (pattern_at N held l)) (and_right _ _ (not_from_true _ (N.reflexive (pattern_at N held l)))) (itself_or N held apart l low)

    module _ (u : ℕ → Bool) where
      -- the first that passes is l, or the first further up
      first_here : (r : Option ℕ) → (u l ≡ false → Innermost N held u l r) → Innermost N held u l (cond (u l) (Some l) r)
      first_here r h = cond_both (u l) (Some l) r (Innermost N held u l) (λ e. (low, e, N.reflexive (pattern_at N held l), (λ b m v w. w))) h

      another : u l ≡ false → (b : ℕ) → u b ≡ true → eqb b l ≡ false
      another f b v = ne_eqb b l (λ e. both_ways (u l) f (subst (λ c. u c ≡ true) e v))

      -- of what passes the same lies around l and around p
      first_above : (p : ℕ) → ((b : ℕ) → b < length held → u b ≡ true → inside N held l b ≡ inside N held p b) → (r : Option ℕ) → Innermost N held u p r → Innermost N held u l r
      first_above p e None h = λ b m v. e b m v ∙ h b m v
      first_above p e (Some a) h = (h.0, h.1, e a h.0 h.1 ∙ h.2, (λ b m v w. h.3 b m v (sym (e b m v) ∙ w)))

  module _ (apart : Distinct N held) (up : ℕ → Option ℕ) where
    -- from l on by its parent, if it has one
    step : (n l : ℕ) → size l ≤ suc n → l < length held → (o : Option ℕ) → Above N held l o → ((p : ℕ) → size p ≤ n → p < length held → Way N held p (chain up n p)) → Way N held l (l ∷ onward (chain up n) o)
    step n l few low None h way =
        let only : (b : ℕ) → b < length held → inside N held l b ≡ (eqb b l || false) = λ b m. h b m ∙ sym (or_false (eqb b l) false refl) in
        record {
          low = (low, tt);
          members = λ b m. sym (only b m);
          level = omega (arith, size_level l low apart, size_besides l low (λ _. false) refl only, ap length (kept_none (λ _. false) (λ _. refl) held));
          first = λ u. first_here l low u None (λ f b m v. h b m ∙ another l low u f b v);
        }
    step n l few low (Some p) h way =
        let less = size_besides l low (N.within (pattern_at N held p)) h.1 h.2 in
        let w = way p (omega arith) h.0 in
        record {
          low = (low, w.low);
          members = λ b m. ap (λ c. eqb b l || c) (w.members b m) ∙ sym (h.2 b m);
          level = omega (arith, size_level l low apart, size_level p h.0 apart, w.level);
          first = λ u. first_here l low u _ (λ f. first_above l low u p (λ b m v. h.2 b m ∙ ap (λ c. c || inside N held p b) (another l low u f b v)) _ (w.first u));
        }

    -- n is enough for all that lies around l
    ways : ((l : ℕ) → l < length held → up l ≡ parent_label N held l) → (n l : ℕ) → size l ≤ n → l < length held → Way N held l (chain up n l)
    ways is zero l few low = absurd (omega (arith, size_level l low apart))
    ways is (suc n) l few low = step n l few low (up l) (subst (Above N held l) (sym (is l low)) (parents_tell_lem N held apart l low)) (ways is n)

pub chains_tell_lem : {P V : Type 0} (N : Nest P V) → ChainsTell N
chains_tell_lem N held apart up is n l enough low =
    let t = N.within (pattern_at N held l) in
    ways N held apart up is n l (omega (arith, length-filter t held, count_by-le-length t held)) low
