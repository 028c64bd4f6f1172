-- An entry stored at a node: what is kept, and what is new.
use Rattle.std.proofs.Common.{◌≡◌, ℕ, zero, suc, ◌<◌, true, cond, List, [], ◌∷◌, length, get_or, set, Some, None, Option, sym, refl, ap, ◌∙◌, arith}
use Rattle.std.proofs.lemmas.List.{length-set}
use Rattle.std.proofs.lemmas.Bool.Decides.{nat_tests}
use Rattle.std.proofs.lemmas.Grind.{common_steps}
use Rattle.std.specs.Option.{option_map, option_flatten}
use Rattle.keytables.specs.Chains.{latest}
use Rattle.keytables.specs.Keys.{numbers_of, same_key, put_at}
use Rattle.keytables.specs.declared.key.Key.{Key}
use Rattle.keytables.proofs.Chains.{chained_same}
use Rattle.keytables.proofs.Latest.{latest_same}
use Rattle.keytables.proofs.Same.{from_same, to_same, numbers_one}
use Rattle.keytrees.specs.Nodes.{no_node, with_entry, head_of, is_child, child_of, end_of, held, stored, Grown}
use Rattle.keytrees.specs.declared.tree.Node.{Node}
use Rattle.keytrees.proofs.Ends.{end_same, end_one, held_at}

same_length : (a b : Key) → length (numbers_of a) ≡ length (numbers_of b)
unfolding numbers_of
same_length a b = refl

module _ (nodes : List Node) (n e : ℕ) (l : n < length nodes) where
  end_kept : (p : ℕ) (xs : List ℕ) → end_of (set nodes n (with_entry (get_or nodes n no_node) e)) p xs ≡ end_of nodes p xs
  unfolding child_of
  end_kept = end_same nodes (set nodes n (with_entry (get_or nodes n no_node) e)) (λ p x.
      let more = set nodes n (with_entry (get_or nodes n no_node) e) in
      ap (latest (is_child more p x)) (length-set nodes n (with_entry (get_or nodes n no_node) e))
      ∙ latest_same (is_child more p x) (is_child nodes p x) (length nodes) (λ j _. grind (arith, common_steps)))

  head_kept : (a : ℕ) → head_of (set nodes n (with_entry (get_or nodes n no_node) e)) a ≡ head_of nodes a
  head_kept zero = refl
  head_kept (suc a) = grind (arith, common_steps)

  pub grown_set : Grown nodes → Grown (set nodes n (with_entry (get_or nodes n no_node) e))
  grown_set t = record {
    root = grind (arith, common_steps);
    before = λ j. grind (arith, common_steps, t.before j);
    chained = rw length-set
        (chained_same _ _ _ _ _ _ (length nodes) (λ j. grind (arith, common_steps)) head_kept (λ j. grind (arith, common_steps)) t.chained);
  }

  -- what is stored at a node that may be there
  entry_set : (k q : Key) → end_of nodes 0 (numbers_of k) ≡ Some n → (o : Option ℕ) → end_of nodes 0 (numbers_of q) ≡ o → option_flatten (option_map (λ m. (get_or (set nodes n (with_entry (get_or nodes n no_node) e)) m no_node).entry) o) ≡ cond (same_key q k) (Some e) (option_flatten (option_map (λ m. (get_or nodes m no_node).entry) o))
  entry_set k q ends None s = grind (arith, common_steps, from_same q k)
  entry_set k q ends (Some m) s =
      let one = λ (z : m ≡ n). numbers_one q k (end_one nodes 0 0 (numbers_of q) (numbers_of k) n (same_length q k) (s ∙ ap Some z) ends).1 in
      grind (arith, common_steps, nat_tests, from_same q k, to_same q k, one)

  pub stored_set : (k : Key) → end_of nodes 0 (numbers_of k) ≡ Some n → (q : Key) → stored (set nodes n (with_entry (get_or nodes n no_node) e)) q ≡ put_at true (stored nodes) k e q
  stored_set k ends q =
      let o = end_of nodes 0 (numbers_of q) in
      held_at _ 0 (numbers_of q) o (end_kept 0 (numbers_of q)) ∙ entry_set k q ends o refl ∙ ap (cond (same_key q k) (Some e)) (sym (held_at nodes 0 (numbers_of q) o refl))

pub stored_none : (nodes : List Node) (k : Key) → nodes ≡ no_node ∷ [] → stored nodes k ≡ None
unfolding held end_of child_of latest numbers_of
stored_none nodes k e = rw e refl
