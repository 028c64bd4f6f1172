use Rattle.std.proofs.Common.{rules}
use Rattle.finders.proofs.Nearest.{parent_found}
use Rattle.finders.proofs.scan.ScanFinder.parent.Goals as goal

pub returns : goal.returns
returns g c = parent_found g.K.FieldKind.nest _ _ _ c.innermost.ensures c.args.label.place c.in_ok-p.p (λ q b e. search rules) (search rules)
