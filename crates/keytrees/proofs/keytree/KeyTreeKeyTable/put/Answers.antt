use Rattle.std.proofs.Common.{rules, ◌≡◌, Some, vec_items}
use Rattle.keytables.specs.Keys.{numbers_of}
use Rattle.keytrees.specs.Nodes.{end_of}
use Rattle.keytrees.proofs.Stores.{stored_set}
use Rattle.keytrees.proofs.keytree.KeyTreeKeyTable.put.Goals as goal

pub returns-clause-map : goal.returns-clause-map
returns-clause-map c =
    let more = vec_items c.grow-node.new.self.nodes in
    let k = c.args.key in
    let n = c.grow-node.result in
    let g = c.grow-node.ensures in
    let ends : end_of more 0 (numbers_of k) ≡ Some n = search rules in
    λ q. rw c.set_entry-2.ensures
    (let h = stored_set more n c.args.entry g.within k ends q in let s = g.kept.entries 0 (numbers_of q) in search rules)
