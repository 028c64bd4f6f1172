use Rattle.std.proofs.Common.{◌≡◌, ◌+◌, ◌<◌, ◌≤◌, Bool, List, ◌++◌, length, vec_items}
use Rattle.tries.specs.Nodes.{look, Leads}
use Rattle.tries.specs.Spelling.{bits}
use Rattle.tries.proofs.nodes.Nodes.reach.Given as goal

abbrev pub invariant-loop-bit : goal.invariant-loop-bit
invariant-loop-bit l = record {
  leads : Leads (vec_items l.self.list) 0 l.yielded l.at;
  here : l.at < length (vec_items l.self.list);
  left : bits l.fn.path ≡ l.yielded ++ bits l.bit-iterator;
  labels : (bs : List Bool) → look (vec_items l.self.list) 0 bs ≡ look (vec_items l.initial.self.list) 0 bs;
  long : length (vec_items l.self.list) ≤ length (vec_items l.initial.self.list) + length l.yielded;
}
