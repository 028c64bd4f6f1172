use Rattle.std.proofs.Common.{◌≡◌, get_or, vec_items, rules}
use Rattle.std.proofs.lemmas.List.{get_or_read}
use Rattle.keytrees.specs.Nodes.{no_node}
use Rattle.keytrees.proofs.Stores.{grown_set}
use Rattle.keytrees.proofs.tree.Tree.set_entry.Goals as goal

pub invariant_of-self-clause-grown : goal.invariant_of-self-clause-grown
invariant_of-self-clause-grown c =
    let t = c.args.self.now in
    let y : c.index_mut.result.now ≡ get_or (vec_items t.nodes) c.args.node no_node = search (rules, get_or_read) in
    rw y (grown_set (vec_items t.nodes) c.args.node c.args.entry c.requires t.grown)
