-- What a new node and a new label leave.
use Rattle.std.proofs.Common.{◌≡◌, ◌≢◌, ℕ, zero, suc, ◌<◌, ◌≤◌, Bool, true, false, ◌⊎◌, List, [], ◌∷◌, ◌++◌, length, get_or, set, Some, None, Option, option_and_then, sym, refl, ap, ◌∙◌, subst, inl, inr, ⊎_elim, arith}
use Rattle.std.proofs.lemmas.List.{append-nil, append_assoc, length_push, length-set, get_or_append_left, get_or_read}
use Rattle.std.proofs.Math.Logic.{∥∥₁_map}
use Rattle.std.proofs.lemmas.Bool.{cases_lt}
use Rattle.std.proofs.lemmas.Option.{none-some, same_Some}
use Rattle.fields.specs.declared.numbers.Label.{Label}
use Rattle.tries.specs.Nodes.{no_node, kid, tag, look, turned, grown, marked, Leads, Tree}
use Rattle.tries.specs.declared.node.Node.{Node}
use Rattle.tries.proofs.Writes.{Grown, Tagged, grows, marks, kept_kids, same_place, past_kid, past_tag}

-- the same is done with what is there
same_on : {A B : Type 0} (f g : A → Option B) (o : Option A) → ((x : A) → o ≡ Some x → f x ≡ g x) → option_and_then f o ≡ option_and_then g o
same_on f g None h = refl
same_on f g (Some x) h = h x refl

module _ (nodes : List Node) where
  -- one bit further on
  pub leads_push : (i : ℕ) (bs : List Bool) (e : ℕ) (b : Bool) (k : ℕ) → Leads nodes i bs e → kid nodes e b ≡ Some k → Leads nodes i (bs ++ b ∷ []) k
  leads_push i [] e b k l h = (k, ap (λ j. kid nodes j b) l ∙ h, refl)
  leads_push i (c ∷ bs) e b k l h = (l.0, l.1, leads_push l.0 bs e b k l.2 h)

  pub leads_low : Tree nodes → (i : ℕ) (bs : List Bool) (e : ℕ) → i < length nodes → Leads nodes i bs e → e < length nodes
  leads_low t i [] e h l = subst (λ j. j < length nodes) l h
  leads_low t i (b ∷ bs) e h l = leads_low t l.0 bs e (t.low i b l.0 l.1) l.2

  pub leads_look : (i : ℕ) (bs : List Bool) (e : ℕ) → Leads nodes i bs e → look nodes i bs ≡ tag nodes e
  leads_look i [] e l = ap (tag nodes) l
  leads_look i (b ∷ bs) e l = ap (option_and_then (λ k. look nodes k bs)) l.1 ∙ leads_look l.0 bs e l.2

-- what is further on stays so
leads_kept : (nodes more : List Node) → ((i : ℕ) (c : Bool) (k : ℕ) → kid nodes i c ≡ Some k → kid more i c ≡ Some k) → (i : ℕ) (bs : List Bool) (e : ℕ) → Leads nodes i bs e → Leads more i bs e
leads_kept nodes more f i [] e l = l
leads_kept nodes more f i (b ∷ bs) e l = (l.0, f i b l.0 l.1, leads_kept nodes more f l.0 bs e l.2)

module _ (nodes more : List Node) (n : ℕ) (b : Bool) (l : n < length nodes) (z : kid nodes n b ≡ None) (g : Grown nodes more n b) where
  new_kid : (i : ℕ) (c : Bool) → (i ≡ n) × (c ≡ b) → kid more i c ≡ Some (length nodes)
  new_kid i c q = ap (λ j. kid more j c) q.0 ∙ ap (kid more n) q.1 ∙ g.new

  no_kid : (i : ℕ) (c : Bool) → (i ≡ n) × (c ≡ b) → kid nodes i c ≡ None
  no_kid i c q = ap (λ j. kid nodes j c) q.0 ∙ ap (kid nodes n) q.1 ∙ z

  kept_kid : (i : ℕ) (c : Bool) (k : ℕ) → kid nodes i c ≡ Some k → kid more i c ≡ Some k
  kept_kid i c k y = g.old i c (λ p q. none-some k (sym (no_kid i c (p, q)) ∙ y)) ∙ y

  new_end : (c : Bool) → kid more (length nodes) c ≡ None
  new_end c = g.old (length nodes) c (λ q. absurd (omega arith)) ∙ past_kid nodes (length nodes) c (omega arith)

  end_new : (k : ℕ) (cs : List Bool) (e : ℕ) → k ≡ length nodes → Leads more k cs e → (cs ≡ []) × (e ≡ length nodes)
  end_new k [] e q y = (refl, sym y ∙ q)
  end_new k (c ∷ cs) e q y = absurd (none-some y.0 (sym (new_end c) ∙ ap (λ j. kid more j c) (sym q) ∙ y.1))

  -- a way over the nodes there were, or one that ends at the new one
  abbrev Ends : ℕ → List Bool → ℕ → Type 0
  Ends i bs e = (cs : List Bool) × (bs ≡ cs ++ b ∷ []) × Leads nodes i cs n × (e ≡ length nodes)

  ways : Tree nodes → (i : ℕ) (bs : List Bool) (e : ℕ) → i < length nodes → Leads more i bs e → Leads nodes i bs e ⊎ Ends i bs e
  ways t i [] e h y = inl y
  ways t i (c ∷ cs) e h y = ⊎_elim
      (λ (q : (i ≡ n) × (c ≡ b)).
      let w = end_new y.0 cs e (same_Some _ _ (sym y.1 ∙ new_kid i c q)) y.2 in
      inr ([], cc, q.0, w.1))
      (λ (q : i ≡ n → c ≢ b).
      let k = sym (g.old i c q) ∙ y.1 in
      ⊎_elim
      (λ (w : Leads nodes y.0 cs e). inl (y.0, k, w))
      (λ (w : Ends y.0 cs e). inr (c ∷ w.0, ap (λ ds. c ∷ ds) w.1, (y.0, k, w.2), w.3))
      (ways t y.0 cs e (t.low i c y.0 k) y.2))
      (same_place i n b c)

  one_end : Tree nodes → (bs cs : List Bool) (e : ℕ) → Leads nodes 0 bs e ⊎ Ends 0 bs e → Leads nodes 0 cs e ⊎ Ends 0 cs e → bs ≡ cs
  one_end t bs cs e (inl x) (inl y) = t.one_way bs cs e x y
  one_end t bs cs e (inl x) (inr y) = absurd (omega (arith, leads_low nodes t 0 bs e t.rooted x, y.3))
  one_end t bs cs e (inr x) (inl y) = absurd (omega (arith, leads_low nodes t 0 cs e t.rooted y, x.3))
  one_end t bs cs e (inr x) (inr y) = let d = t.one_way x.0 y.0 n x.2 y.2 in cc

  tree_grown : Tree nodes → Tree more
  tree_grown t = record {
    rooted = omega (arith, g.long);
    low = λ i c k y. ⊎_elim
        (λ (q : (i ≡ n) × (c ≡ b)). omega (arith, g.long, same_Some _ _ (sym (new_kid i c q) ∙ y)))
        (λ (q : i ≡ n → c ≢ b). omega (arith, g.long, t.low i c k (sym (g.old i c q) ∙ y)))
        (same_place i n b c);
    some_way = λ i h. ⊎_elim
        (λ (x : i < length nodes). ∥∥₁_map (t.some_way i x) (λ w. (w.0, leads_kept nodes more kept_kid 0 w.0 i w.1)))
        (λ (x : length nodes ≤ i).
        let e : i ≡ length nodes = omega (arith, g.long) in
        ∥∥₁_map (t.some_way n l) (λ w. (w.0 ++ b ∷ [], leads_push more 0 w.0 n b i (leads_kept nodes more kept_kid 0 w.0 n w.1) (g.new ∙ ap Some (sym e)))))
        (cases_lt i (length nodes));
    one_way = λ bs cs e x y. one_end t bs cs e (ways t 0 bs e t.rooted x) (ways t 0 cs e t.rooted y);
  }

  -- the new node has no label, and none further on
  look_new : (bs : List Bool) → look more (length nodes) bs ≡ None
  look_new [] = g.tags (length nodes) ∙ past_tag nodes (length nodes) (omega arith)
  look_new (c ∷ cs) = ap (option_and_then (λ k. look more k cs)) (new_end c)

  -- the labels are where they were
  look_grown : (i : ℕ) (bs : List Bool) → look more i bs ≡ look nodes i bs
  look_grown i [] = g.tags i
  look_grown i (c ∷ cs) = ⊎_elim
      (λ (q : (i ≡ n) × (c ≡ b)). ap (option_and_then (λ k. look more k cs)) (new_kid i c q) ∙ look_new cs ∙ sym (ap (option_and_then (λ k. look nodes k cs)) (no_kid i c q)))
      (λ (q : i ≡ n → c ≢ b). ap (option_and_then (λ k. look more k cs)) (g.old i c q) ∙ same_on _ _ (kid nodes i c) (λ k _. look_grown k cs))
      (same_place i n b c)

-- the same ways make the same tree
tree_same : (nodes more : List Node) → length more ≡ length nodes → ((i : ℕ) (c : Bool) → kid more i c ≡ kid nodes i c) → Tree nodes → Tree more
tree_same nodes more long kids t =
    let back = leads_kept more nodes (λ i c k y. sym (kids i c) ∙ y) in
    record {
      rooted = omega (arith, long, t.rooted);
      low = λ i c k y. omega (arith, long, t.low i c k (sym (kids i c) ∙ y));
      some_way = λ i h. ∥∥₁_map (t.some_way i (omega (arith, long))) (λ w. (w.0, leads_kept nodes more (λ j c k y. kids j c ∙ y) 0 w.0 i w.1));
      one_way = λ bs cs k x y. t.one_way bs cs k (back 0 bs k x) (back 0 cs k y);
    }

-- a label where bits lead
module _ (nodes more : List Node) (e : ℕ) (l : Label) (g : Tagged nodes more e l) (t : Tree nodes) where
  module _ (bs : List Bool) (h : Leads nodes 0 bs e) where
    look_here : look more 0 bs ≡ Some l
    look_here = leads_look more 0 bs e (leads_kept nodes more (λ i c k y. g.kids i c ∙ y) 0 bs e h) ∙ g.here

    -- from the node at i, to which other bits lead
    elsewhere : (i : ℕ) (ps xs : List Bool) → Leads nodes 0 ps i → ps ++ xs ≢ bs → look more i xs ≡ look nodes i xs
    elsewhere i ps [] y ne = g.other i (λ q. ne (append-nil ps ∙ t.one_way ps bs e (subst (Leads nodes 0 ps) q y) h))
    elsewhere i ps (c ∷ cs) y ne = ap (option_and_then (λ k. look more k cs)) (g.kids i c) ∙ same_on _ _ (kid nodes i c)
        (λ k q. elsewhere k (ps ++ c ∷ []) cs (leads_push nodes 0 ps i c k y q) (λ r. ne (sym (append_assoc ps (c ∷ []) cs) ∙ r)))

    look_elsewhere : (xs : List Bool) → xs ≢ bs → look more 0 xs ≡ look nodes 0 xs
    look_elsewhere xs ne = elsewhere 0 [] xs refl ne

-- the root alone
root_kid : (i : ℕ) (b : Bool) → kid (no_node ∷ []) i b ≡ None
unfolding kid
root_kid zero true = refl
root_kid zero false = refl
root_kid (suc i) true = refl
root_kid (suc i) false = refl

root_tag : (i : ℕ) → tag (no_node ∷ []) i ≡ None
unfolding tag
root_tag zero = refl
root_tag (suc i) = refl

root_way : (bs : List Bool) (e : ℕ) → Leads (no_node ∷ []) 0 bs e → bs ≡ []
root_way [] e y = refl
root_way (b ∷ bs) e y = absurd (none-some y.0 (sym (root_kid 0 b) ∙ y.1))

pub tree_root : Tree (no_node ∷ [])
tree_root = record {
  rooted = omega arith;
  low = λ i b k y. absurd (none-some k (sym (root_kid i b) ∙ y));
  some_way = λ i h. ∣ ([], omega arith) ∣₁;
  one_way = λ bs cs e x y. root_way bs e x ∙ sym (root_way cs e y);
}

pub look_root : (bs : List Bool) → look (no_node ∷ []) 0 bs ≡ None
look_root [] = root_tag 0
look_root (b ∷ bs) = ap (option_and_then (λ k. look (no_node ∷ []) k bs)) (root_kid 0 b)

-- what the functions that write need
module _ (nodes more : List Node) (n : ℕ) (b : Bool) (l : n < length nodes) (z : kid nodes n b ≡ None) (e : more ≡ grown nodes n b) where
  grew : Grown nodes more n b
  grew = subst (λ xs. Grown nodes xs n b) (sym e) (grows nodes n b l)

  pub grown_tree : Tree nodes → Tree more
  grown_tree = tree_grown nodes more n b l z grew

  pub grown_labels : (bs : List Bool) → look more 0 bs ≡ look nodes 0 bs
  grown_labels = look_grown nodes more n b l z grew 0

  pub grown_leads : (bs : List Bool) → Leads nodes 0 bs n → Leads more 0 (bs ++ b ∷ []) (length nodes)
  grown_leads bs h = leads_push more 0 bs n b (length nodes) (leads_kept nodes more (kept_kid nodes more n b l z grew) 0 bs n h) grew.new

module _ (nodes more : List Node) (n : ℕ) (k : Label) (t : Tree nodes) (l : n < length nodes) (e : more ≡ marked nodes n k) where
  tagged : Tagged nodes more n k
  tagged = subst (λ xs. Tagged nodes xs n k) (sym e) (marks nodes n k l)

  pub marked_here : (bs : List Bool) → Leads nodes 0 bs n → look more 0 bs ≡ Some k
  marked_here = look_here nodes more n k tagged t

  pub marked_elsewhere : (bs : List Bool) → Leads nodes 0 bs n → (xs : List Bool) → xs ≢ bs → look more 0 xs ≡ look nodes 0 xs
  marked_elsewhere = look_elsewhere nodes more n k tagged t

-- the tree in the words of the code: r was read at n, and x is written there
pub tree_turned : (nodes pushed : List Node) (n : ℕ) (r x : Node) (b : Bool) (m : ℕ) → pushed ≡ nodes ++ no_node ∷ [] → r ≡ get_or pushed n r → x ≡ turned r b m → m ≡ length nodes → n < length nodes → kid nodes n b ≡ None → Tree nodes → Tree (set pushed n x)
tree_turned nodes pushed n r x b m ep er ex em l z t =
    let more : n < length pushed = omega (arith, ap length ep, length_push nodes no_node) in
    let there : r ≡ get_or nodes n no_node = get_or_read pushed n r more er no_node ∙ ap (λ xs. get_or xs n no_node) ep ∙ get_or_append_left nodes (no_node ∷ []) no_node n l in
    grown_tree nodes (set pushed n x) n b l z (cc) t

pub tree_labelled : (nodes : List Node) (n : ℕ) (r x : Node) → r ≡ get_or nodes n r → x.zero ≡ r.zero → x.one ≡ r.one → n < length nodes → Tree nodes → Tree (set nodes n x)
tree_labelled nodes n r x er ez eo l t =
    let there = get_or_read nodes n r l er no_node in
    tree_same nodes (set nodes n x) (length-set nodes n x) (kept_kids nodes n x l (ez ∙ ap (λ (y : Node). y.zero) there) (eo ∙ ap (λ (y : Node). y.one) there)) t
