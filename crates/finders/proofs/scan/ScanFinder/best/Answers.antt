use Rattle.std.proofs.Common.{rules}
use Rattle.finders.proofs.Nearest.{best_found}
use Rattle.finders.proofs.scan.ScanFinder.best.Goals as goal

pub returns : goal.returns
returns g c = best_found g.K.FieldKind.nest _ _ _ c.innermost.ensures c.args.v (λ p b e. search rules)
