use Rattle.std.proofs.Common.{refl, arith}
use Rattle.ruletable.proofs.Slots.{strike_row}
use Rattle.ruletable.proofs.table.RuleTable.strike.Goals as goal

pub returns : goal.returns
returns c = record { slots = refl; rows = strike_row c.args.self.now.slots c.args.n (omega arith) }
