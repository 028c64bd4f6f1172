use Rattle.std.proofs.Common.{◌≡◌, length, get_or, vec_items, rules}
use Rattle.std.proofs.lemmas.List.{get_or_read}
use Rattle.keytrees.specs.Nodes.{no_node}
use Rattle.keytrees.proofs.Adds.{added, grown_added, child_new, kept_added}
use Rattle.keytrees.proofs.tree.Tree.add.Goals as goal

pub invariant_of-self-clause-grown : goal.invariant_of-self-clause-grown
invariant_of-self-clause-grown c =
    let t = c.args.self.now in
    let nodes = vec_items t.nodes in
    let y : c.index_mut-node.result.now ≡ get_or nodes c.args.parent no_node = search (rules, get_or_read) in
    let is : c.push_reserved.new.self.items ≡ added nodes c.args.parent c.args.number = search rules in
    rw is (grown_added nodes c.args.parent c.args.number c.requires.parent t.grown)

pub returns : goal.returns
returns c =
    let t = c.args.self.now in
    let nodes = vec_items t.nodes in
    let p = c.args.parent in
    let x = c.args.number in
    let l = c.requires.parent in
    let y : c.index_mut-node.result.now ≡ get_or nodes p no_node = search (rules, get_or_read) in
    let is : c.push_reserved.new.self.items ≡ added nodes p x = search rules in
    let n : c.len-place.result ≡ length nodes = search rules in
    record {
      child = rw (is, n) (child_new nodes p x l);
      within = search rules;
      kept = rw is (kept_added nodes p x l t.grown c.requires.new);
      few = search rules;
    }
