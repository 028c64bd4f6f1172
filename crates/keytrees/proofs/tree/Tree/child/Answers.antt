use Rattle.std.proofs.Common.{◌≡◌, suc, true, false, get_or, ap, vec_items, rules, arith}
use Rattle.std.proofs.lemmas.List.{get_or_read}
use Rattle.std.proofs.lemmas.Bool.Decides.{nat_tests}
use Rattle.keytables.specs.Chains.{link_of}
use Rattle.keytables.proofs.Chains.{way_start, way_more, way_here, way_found, way_over}
use Rattle.keytrees.specs.Nodes.{no_node, is_child, child_of}
use Rattle.keytrees.proofs.Children.{child_own}
use Rattle.keytrees.proofs.tree.Tree.child.Goals as goal

pub loop-link-init : goal.loop-link-init
loop-link-init c =
    let t = c.args.self.now in
    let nodes = vec_items t.nodes in
    let p = c.args.parent in
    let x = c.args.number in
    let y : c.index.result.now ≡ get_or nodes p no_node = search (rules, get_or_read) in
    rw (c.place-link.ensures, y) (way_start t.grown.chained (suc p) (is_child nodes p x) (child_own nodes p x))

pub returns-then-node-number-clause-child : goal.returns-then-node-number-clause-child
unfolding child_of
returns-then-node-number-clause-child c =
    let nodes = vec_items c.args.self.now.nodes in
    let i = c.from-place.result in
    let y : c.index-node.result.now ≡ get_or nodes i no_node = search (rules, get_or_read) in
    let w = c.loop-link.invariant in
    let h : is_child nodes c.args.parent c.args.number i ≡ true = grind (arith, nat_tests, way_here w i (search rules)) in
    way_found w i (search rules) h

pub loop-link-preserved : goal.loop-link-preserved
loop-link-preserved c =
    let t = c.args.self.now in
    let nodes = vec_items t.nodes in
    let p = c.args.parent in
    let x = c.args.number in
    let i = c.from-place.result in
    let y : c.index-node.result.now ≡ get_or nodes i no_node = search (rules, get_or_read) in
    let h : is_child nodes p x i ≡ false = grind (arith, nat_tests) in
    rw (c.place-link-in-Some.ensures, y) (way_more t.grown.chained (suc p) (is_child nodes p x) (child_own nodes p x) (link_of c.loop-link.link) i c.loop-link.invariant (search rules) h)

pub returns-clause-child : goal.returns-clause-child
unfolding child_of
returns-clause-child c = way_over c.loop-link.invariant (ap link_of c.in_default.is)
