use Rattle.std.proofs.Common.{◌≡◌, ◌<◌, length, vec_items}
use Rattle.std.specs.Option.{option_or}
use Rattle.tries.specs.Nodes.{tag, deepest}
use Rattle.tries.specs.Spelling.{bits}
use Rattle.tries.proofs.nodes.Nodes.deepest.Given as goal

abbrev pub invariant-loop-bit : goal.invariant-loop-bit
invariant-loop-bit l = record {
  here : l.at < length (vec_items l.self.list);
  own : option_or (tag (vec_items l.self.list) l.at) l.found ≡ l.found;
  same : deepest (vec_items l.self.list) 0 (bits l.fn.path) ≡ option_or (deepest (vec_items l.self.list) l.at (bits l.bit-iterator)) l.found;
}
