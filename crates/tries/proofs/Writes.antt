-- What the writes to the nodes do.
use Rattle.std.proofs.Common.{◌≡◌, ◌≢◌, ℕ, zero, suc, ◌+◌, ◌<◌, ◌≤◌, Bool, true, false, cond, ◌⊎◌, List, [], ◌∷◌, ◌++◌, length, get_or, set, Some, None, Option, sym, refl, ap, ◌∙◌, inl, inr, ⊎_elim, arith}
use Rattle.std.proofs.lemmas.List.{length_push, length-set, get_or_past, get_or-set_other}
use Rattle.std.proofs.lemmas.Bool.{cases_eq, true≢false, false≢true}
use Rattle.std.proofs.lemmas.Grind.{get_or-set_at}
use Rattle.fields.specs.declared.numbers.Label.{Label}
use Rattle.tries.specs.Nodes.{no_node, kid, tag, turned, labelled, grown, marked}
use Rattle.tries.specs.declared.node.Node.{Node}

-- the same bit of the same node, or not
same_bit : (b c : Bool) → (c ≡ b) ⊎ (c ≢ b)
same_bit true true = inl refl
same_bit false false = inl refl
same_bit true false = inr false≢true
same_bit false true = inr true≢false

pub same_place : (i n : ℕ) (b c : Bool) → ((i ≡ n) × (c ≡ b)) ⊎ (i ≡ n → c ≢ b)
same_place i n b c = ⊎_elim (λ (p : i ≡ n). ⊎_elim (λ (q : c ≡ b). inl (p, q)) (λ (q : c ≢ b). inr (λ _. q)) (same_bit b c)) (λ (p : i ≡ n → ⊥). inr (λ r. absurd (p r))) (cases_eq i n)

-- past the nodes there is nothing
pub past_kid : (nodes : List Node) (i : ℕ) (b : Bool) → length nodes ≤ i → kid nodes i b ≡ None
unfolding kid
past_kid nodes i true l = ap (λ (n : Node). n.one) (get_or_past nodes i no_node l)
past_kid nodes i false l = ap (λ (n : Node). n.zero) (get_or_past nodes i no_node l)

pub past_tag : (nodes : List Node) (i : ℕ) → length nodes ≤ i → tag nodes i ≡ None
unfolding tag
past_tag nodes i l = ap (λ (n : Node). n.label) (get_or_past nodes i no_node l)

-- how the nodes are with a new one, one bit b further on than the one at n
pub record Grown (nodes more : List Node) (n : ℕ) (b : Bool) : Type 0 where
  pub long : length more ≡ length nodes + 1
  pub new : kid more n b ≡ Some (length nodes)
  pub old : (i : ℕ) (c : Bool) → (i ≡ n → c ≢ b) → kid more i c ≡ kid nodes i c
  pub tags : (i : ℕ) → tag more i ≡ tag nodes i

-- how the nodes are where the one at n is given a label
pub record Tagged (nodes more : List Node) (n : ℕ) (l : Label) : Type 0 where
  pub long : length more ≡ length nodes
  pub kids : (i : ℕ) (c : Bool) → kid more i c ≡ kid nodes i c
  pub here : tag more n ≡ Some l
  pub other : (i : ℕ) → i ≢ n → tag more i ≡ tag nodes i

-- past the end stands a bare node too
padded : (xs : List Node) (i : ℕ) → get_or (xs ++ no_node ∷ []) i no_node ≡ get_or xs i no_node
padded [] zero = refl
padded [] (suc i) = refl
padded (x ∷ xs) zero = refl
padded (x ∷ xs) (suc i) = padded xs i

-- the place one bit further on
abbrev way_of : Node → Bool → Option ℕ
way_of n b = cond b n.one n.zero

turned_here : (n : Node) (b : Bool) (m : ℕ) → way_of (turned n b m) b ≡ Some m
turned_here n true m = refl
turned_here n false m = refl

turned_there : (n : Node) (b c : Bool) (m : ℕ) → c ≢ b → way_of (turned n b m) c ≡ way_of n c
turned_there n true true m ne = absurd (ne refl)
turned_there n true false m ne = refl
turned_there n false true m ne = refl
turned_there n false false m ne = absurd (ne refl)

turned_label : (n : Node) (b : Bool) (m : ℕ) → (turned n b m).label ≡ n.label
turned_label n true m = refl
turned_label n false m = refl

-- what a change of the node at n leaves of what nodes tell
module _ {X : Type 0} (tell : Node → X) (xs : List Node) (n : ℕ) (x : Node) where
  kept_other : (i : ℕ) → i ≢ n → tell (get_or (set xs n x) i no_node) ≡ tell (get_or xs i no_node)
  kept_other i ne = ap tell (get_or-set_other xs n i x no_node ne)

  told_here : n < length xs → tell (get_or (set xs n x) n no_node) ≡ tell x
  told_here l = ap tell (get_or-set_at xs n n x no_node refl l)

  kept_all : n < length xs → tell x ≡ tell (get_or xs n no_node) → (i : ℕ) → tell (get_or (set xs n x) i no_node) ≡ tell (get_or xs i no_node)
  kept_all l same i = ⊎_elim (λ (e : i ≡ n). ap tell (get_or-set_at xs n i x no_node e l) ∙ same ∙ ap (λ j. tell (get_or xs j no_node)) (sym e)) (kept_other i) (cases_eq i n)

pub grows : (nodes : List Node) (n : ℕ) (b : Bool) → n < length nodes → Grown nodes (grown nodes n b) n b
unfolding kid tag
grows nodes n b l =
    let x = turned (get_or nodes n no_node) b (length nodes) in
    let more = nodes ++ no_node ∷ [] in
    let long = length_push nodes no_node in
    let within : n < length more = omega arith in
    record {
      long = length-set more n x ∙ long;
      new = told_here (λ y. way_of y b) more n x within ∙ turned_here (get_or nodes n no_node) b (length nodes);
      old = λ i c ne. ⊎_elim
          (λ (e : i ≡ n). kept_all (λ y. way_of y c) more n x within (turned_there _ b c _ (ne e) ∙ ap (λ y. way_of y c) (sym (padded nodes n))) i)
          (kept_other (λ y. way_of y c) more n x i)
          (cases_eq i n) ∙ ap (λ y. way_of y c) (padded nodes i);
      tags = λ i. kept_all (λ y. y.label) more n x within (turned_label _ b _ ∙ ap (λ (y : Node). y.label) (sym (padded nodes n))) i ∙ ap (λ (y : Node). y.label) (padded nodes i);
    }

pub kept_kids : (nodes : List Node) (n : ℕ) (x : Node) → n < length nodes → x.zero ≡ (get_or nodes n no_node).zero → x.one ≡ (get_or nodes n no_node).one → (i : ℕ) (c : Bool) → kid (set nodes n x) i c ≡ kid nodes i c
unfolding kid
kept_kids nodes n x l ez eo i true = kept_all (λ y. y.one) nodes n x l eo i
kept_kids nodes n x l ez eo i false = kept_all (λ y. y.zero) nodes n x l ez i

pub marks : (nodes : List Node) (n : ℕ) (k : Label) → n < length nodes → Tagged nodes (marked nodes n k) n k
unfolding kid tag
marks nodes n k l =
    let x = labelled (get_or nodes n no_node) k in
    record {
      long = length-set nodes n x;
      kids = kept_kids nodes n x l refl refl;
      here = told_here (λ y. y.label) nodes n x l;
      other = kept_other (λ y. y.label) nodes n x;
    }
