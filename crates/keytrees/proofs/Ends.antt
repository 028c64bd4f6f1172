-- Ways from a node, and what is stored at their ends.
use Rattle.std.proofs.Common.{◌≡◌, ℕ, ◌+◌, ◌<◌, ◌≤◌, List, [], ◌∷◌, ◌++◌, length, get_or, take, drop, Some, None, Option, sym, refl, ap, ◌∙◌, arith}
use Rattle.std.proofs.lemmas.List.{at_drop_more, at_drop_all, take_more, take_all}
use Rattle.std.specs.Option.{option_map, option_flatten}
use Rattle.keytrees.specs.Nodes.{no_node, child_of, end_of, held, Kept, Going}
use Rattle.keytrees.specs.declared.tree.Node.{Node}
use Rattle.keytrees.proofs.Children.{child_holds}

-- one step of a way
pub end_step : (nodes : List Node) (p x : ℕ) (xs : List ℕ) (o : Option ℕ) → child_of nodes p x ≡ o → end_of nodes p (x ∷ xs) ≡ option_flatten (option_map (λ c. end_of nodes c xs) o)
unfolding end_of
end_step nodes p x xs o e = ap (λ (m : Option ℕ). option_flatten (option_map (λ c. end_of nodes c xs) m)) e

pub held_step : (nodes : List Node) (p x : ℕ) (xs : List ℕ) (o : Option ℕ) → child_of nodes p x ≡ o → held nodes p (x ∷ xs) ≡ option_flatten (option_map (λ c. held nodes c xs) o)
unfolding held
held_step nodes p x xs None e = rw (end_step nodes p x xs None e) refl
held_step nodes p x xs (Some c) e = rw (end_step nodes p x xs (Some c) e) refl

pub held_at : (nodes : List Node) (p : ℕ) (xs : List ℕ) (o : Option ℕ) → end_of nodes p xs ≡ o → held nodes p xs ≡ option_flatten (option_map (λ n. (get_or nodes n no_node).entry) o)
unfolding held
held_at nodes p xs o e = rw e refl

-- a way that ends has its first step
end_first : (nodes : List Node) (p x : ℕ) (xs : List ℕ) (n : ℕ) → end_of nodes p (x ∷ xs) ≡ Some n → (c : ℕ) × (child_of nodes p x ≡ Some c) × (end_of nodes c xs ≡ Some n)
end_first nodes p x xs n e = at (child_of nodes p x) refl
  where
    at : (o : Option ℕ) → child_of nodes p x ≡ o → (c : ℕ) × (child_of nodes p x ≡ Some c) × (end_of nodes c xs ≡ Some n)
    at None s = let d = sym (end_step nodes p x xs None s) ∙ e in cc
    at (Some c) s = (c, s, sym (end_step nodes p x xs (Some c) s) ∙ e)

-- a way and one number more
pub end_push : (nodes : List Node) (p : ℕ) (xs : List ℕ) (x n c : ℕ) → end_of nodes p xs ≡ Some n → child_of nodes n x ≡ Some c → end_of nodes p (xs ++ x ∷ []) ≡ Some c
unfolding end_of
end_push nodes p [] x n c e h = end_step nodes p x [] (Some c) (cc)
end_push nodes p (y ∷ ys) x n c e h =
    let d = end_first nodes p y ys n e in
    end_step nodes p y (ys ++ x ∷ []) (Some d.0) d.1 ∙ end_push nodes d.0 ys x n c d.2 h

-- two ways of one length that end at one node are one way
pub end_one : (nodes : List Node) (p q : ℕ) (xs ys : List ℕ) (n : ℕ) → length xs ≡ length ys → end_of nodes p xs ≡ Some n → end_of nodes q ys ≡ Some n → (p ≡ q) × (xs ≡ ys)
unfolding end_of
end_one nodes p q [] [] n l a b = (cc, refl)
end_one nodes p q [] (y ∷ ys) n l a b = absurd (omega arith)
end_one nodes p q (x ∷ xs) [] n l a b = absurd (omega arith)
end_one nodes p q (x ∷ xs) (y ∷ ys) n l a b =
    let c = end_first nodes p x xs n a in
    let d = end_first nodes q y ys n b in
    let r = end_one nodes c.0 d.0 xs ys n (omega arith) c.2 d.2 in
    let f = child_holds nodes p x c.0 c.1 in
    let g = child_holds nodes q y d.0 d.1 in
    grind (arith, r.0, r.1)

-- where every child is kept, so is every end
pub ends_kept : (nodes more : List Node) → ((p x c : ℕ) → child_of nodes p x ≡ Some c → child_of more p x ≡ Some c) → (p : ℕ) (xs : List ℕ) (n : ℕ) → end_of nodes p xs ≡ Some n → end_of more p xs ≡ Some n
unfolding end_of
ends_kept nodes more k p [] n e = e
ends_kept nodes more k p (x ∷ xs) n e =
    let d = end_first nodes p x xs n e in
    end_step more p x xs (Some d.0) (k p x d.0 d.1) ∙ ends_kept nodes more k d.0 xs n d.2

-- where every child is the same, so is every end
pub end_same : (nodes more : List Node) → ((p x : ℕ) → child_of more p x ≡ child_of nodes p x) → (p : ℕ) (xs : List ℕ) → end_of more p xs ≡ end_of nodes p xs
unfolding end_of
end_same nodes more s p [] = refl
end_same nodes more s p (x ∷ xs) =
    ap (λ (f : ℕ → Option ℕ). option_flatten (option_map f (child_of more p x))) (λ i c. end_same nodes more s c xs i)
    ∙ ap (λ (o : Option ℕ). option_flatten (option_map (λ c. end_of nodes c xs) o)) (s p x)

-- a way gone so far as i
pub end_more : (nodes : List Node) (way : List ℕ) (i node : ℕ) (o e : Option ℕ) → i < length way → end_of nodes node (drop i way) ≡ e → o ≡ child_of nodes node (get_or way i 0) → option_flatten (option_map (λ c. end_of nodes c (drop (i + 1) way)) o) ≡ e
end_more nodes way i node o e l inv s =
    sym (end_step nodes node (get_or way i 0) (drop (i + 1) way) o (sym s)) ∙ sym (at_drop_more (end_of nodes node) way i 0 l) ∙ inv

pub end_all : (nodes : List Node) (way : List ℕ) (i node : ℕ) (e : Option ℕ) → length way ≤ i → end_of nodes node (drop i way) ≡ e → Some node ≡ e
unfolding end_of
end_all nodes way i node e l inv = sym (at_drop_all (end_of nodes node) way i l) ∙ inv

pub kept_none : (nodes : List Node) → Kept nodes nodes
kept_none nodes = record { ends = λ p xs n e. e; entries = λ p xs. refl }

pub going_none : (nodes : List Node) (way : List ℕ) → 0 < length nodes → Going nodes nodes way 0 0
unfolding end_of
going_none nodes way t = record { end = refl; within = t; kept = kept_none nodes; few = omega arith }

pub going_more : (start nodes more : List Node) (way : List ℕ) (i node child : ℕ) → Going start nodes way i node → i < length way → Kept nodes more → length more ≤ length nodes + 1 → child_of more node (get_or way i 0) ≡ Some child → child < length more → Going start more way (i + 1) child
going_more start nodes more way i node child g l k few c w = record {
  end = rw (take_more way i 0 l) (end_push more 0 (take i way) (get_or way i 0) node child (k.ends 0 (take i way) node g.end) c);
  within = w;
  kept = record {
    ends = λ p xs n e. k.ends p xs n (g.kept.ends p xs n e);
    entries = λ p xs. k.entries p xs ∙ g.kept.entries p xs;
  };
  few = omega (arith, g.few);
}

pub going_all : (start nodes : List Node) (way : List ℕ) (i node : ℕ) → Going start nodes way i node → length way ≤ i → end_of nodes 0 way ≡ Some node
going_all start nodes way i node g l = ap (end_of nodes 0) (sym (take_all i way l)) ∙ g.end
