use Rattle.std.proofs.Common.{◌≡◌, ◌<◌, length, vec_items}
use Rattle.tries.specs.Nodes.{look}
use Rattle.tries.specs.Spelling.{bits}
use Rattle.tries.proofs.nodes.Nodes.find.Given as goal

abbrev pub invariant-loop-bit : goal.invariant-loop-bit
invariant-loop-bit l = record {
  low : l.at < length (vec_items l.self.list);
  same : look (vec_items l.self.list) 0 (bits l.fn.path) ≡ look (vec_items l.self.list) l.at (bits l.bit-iterator);
}
