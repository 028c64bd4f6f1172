-- The walk down a chain, and what a new row leaves.
use Rattle.std.proofs.Common.{◌≡◌, ℕ, suc, ◌+◌, ◌<◌, ◌≤◌, Bool, true, false, Some, None, sym, ap, ◌∙◌, subst, ⊎_elim, arith}
use Rattle.std.proofs.lemmas.Bool.{cases_eq, cases_lt}
use Rattle.std.proofs.lemmas.Bool.Decides.{nat_tests}
use Rattle.keytables.specs.Chains.{latest, Top, Chained, Way}
use Rattle.keytables.proofs.Latest.{latest_none, latest_some}

pub chained_none : (chain head link : ℕ → ℕ) → ((b : ℕ) → head b ≡ 0) → Chained chain head link 0
chained_none chain head link z = record {
  tops = λ b. record { low = grind arith; hangs = grind arith; last = grind arith };
  below = λ i l. grind arith;
}

module _ {chain head link : ℕ → ℕ} {n : ℕ} (s : Chained chain head link n) (b : ℕ) (test : ℕ → Bool) (own : (j : ℕ) → test j ≡ true → chain j ≡ b) where
  pub way_start : Way chain n b test (head b)
  way_start = record { low = (s.tops b).low; hangs = (s.tops b).hangs; ahead = λ j l h. (s.tops b).last j l (own j h) }

  pub way_more : (x i : ℕ) → Way chain n b test x → x ≡ suc i → test i ≡ false → Way chain n b test (link i)
  way_more x i w e not =
      let t = s.below i (omega (arith, w.low)) in
      let here : chain i ≡ b = ap chain (omega arith) ∙ w.hangs (omega arith) in
      record {
        low = omega (arith, t.low, w.low);
        hangs = grind arith;
        ahead = λ j l h. grind (arith, nat_tests, w.ahead j l h, own j h, t.last j, not);
      }

module _ {chain : ℕ → ℕ} {n b x : ℕ} {test : ℕ → Bool} (w : Way chain n b test x) where
  pub way_here : (i : ℕ) → x ≡ suc i → chain i ≡ b
  way_here i e = ap chain (omega arith) ∙ w.hangs (omega arith)

  pub way_found : (i : ℕ) → x ≡ suc i → test i ≡ true → Some i ≡ latest test n
  way_found i e h = sym (latest_some test n i (omega (arith, w.low)) h (λ j l k. omega (arith, w.ahead j l k)))

  pub way_over : x ≡ 0 → None ≡ latest test n
  way_over z = sym (latest_none test n (λ j l k. omega (arith, w.ahead j l k)))

-- other functions with the same values
pub chained_same : (chain head link late top next : ℕ → ℕ) (n : ℕ) → ((j : ℕ) → late j ≡ chain j) → ((b : ℕ) → top b ≡ head b) → ((j : ℕ) → next j ≡ link j) → Chained chain head link n → Chained late top next n
chained_same chain head link late top next n c h l s =
    let chains : late ≡ chain = λ i j. c j i in
    let heads : top ≡ head = λ i b. h b i in
    let links : next ≡ link = λ i j. l j i in
    rw (chains, heads, links) s

-- a new row that hangs in the chain b
pub record Grown (chain head link late top next : ℕ → ℕ) (n b : ℕ) : Type 0 where
  pub chains : (j : ℕ) → j < n → late j ≡ chain j
  pub chain_new : late n ≡ b
  pub links : (j : ℕ) → j < n → next j ≡ link j
  pub link_new : next n ≡ head b
  pub heads : (a : ℕ) → (a ≡ b → ⊥) → top a ≡ head a
  pub head_new : top b ≡ n + 1

module _ (chain head link late top next : ℕ → ℕ) (n b : ℕ) (s : Chained chain head link n) (g : Grown chain head link late top next n b) where
  top_here : Top late (n + 1) b (top b)
  top_here = record {
    low = grind (arith, g.head_new);
    hangs = λ h. grind (arith, g.head_new, g.chain_new);
    last = λ j l e. grind (arith, g.head_new);
  }

  top_there : (a : ℕ) → (a ≡ b → ⊥) → Top late (n + 1) a (top a)
  top_there a ne =
      let t = s.tops a in
      let e = g.heads a ne in
      record {
        low = grind (arith, t.low, e);
        hangs = λ h. grind (arith, t.hangs, t.low, g.chains, e);
        last = λ j l k. grind (arith, t.last j, g.chains j, g.chain_new, e, ne);
      }

  below_old : (i : ℕ) → i < n → Top late i (late i) (next i)
  below_old i l =
      let t = s.below i l in
      record {
        low = grind (arith, g.links i, t.low);
        hangs = λ h. grind (arith, t.hangs, t.low, g.links i, g.chains);
        last = λ j m e. grind (arith, g.links i, g.chains i, g.chains j, t.last j);
      }

  below_new : Top late n (late n) (next n)
  below_new =
      let t = s.tops b in
      record {
        low = grind (arith, g.link_new, t.low);
        hangs = λ h. grind (arith, t.hangs, t.low, g.link_new, g.chains, g.chain_new);
        last = λ j m e. grind (arith, g.link_new, g.chain_new, g.chains j, t.last j);
      }

  pub chained_more : Chained late top next (n + 1)
  chained_more = record {
    tops = λ a. ⊎_elim (λ (e : a ≡ b). subst (λ (m : ℕ). Top late (n + 1) m (top m)) (sym e) top_here) (top_there a) (cases_eq a b);
    below = λ i l. ⊎_elim (below_old i) (λ (k : n ≤ i). subst (λ (m : ℕ). Top late m (late m) (next m)) (omega arith) below_new) (cases_lt i n);
  }
