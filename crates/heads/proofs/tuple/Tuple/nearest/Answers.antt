use Rattle.std.proofs.Common.{◌+◌, ltb, sym, refl, ◌∙◌, ap₂, arith}
use Rattle.std.specs.List.{IsFirstBest}
use Rattle.std.proofs.lemmas.List.MinMax.{IsStrictWeakOrder-by_number, IsFirstBest-none, IsFirstBest-takes, IsFirstBest-keeps}
use Rattle.std.proofs.lemmas.Bool.{lt-ltb, le-ltb}
use Rattle.groups.specs.Tuples.{distance}
use Rattle.heads.specs.Counts.{levels_of}
use Rattle.heads.proofs.Nearest.{nearer, nearest_all}
use Rattle.heads.proofs.tuple.Tuple.nearest.Goals as goal
use Rattle.heads.proofs.tuple.Tuple.nearest.Goals.{then-distance, else-distance}

pub loop-i-init : goal.loop-i-init
loop-i-init c = (IsFirstBest-none (IsStrictWeakOrder-by_number (λ h. distance (levels_of c.args.self) (levels_of h))) c.args.heads.now, λ _. refl)

pub loop-i-preserved : goal.loop-i-preserved
loop-i-preserved c =
    let order = IsStrictWeakOrder-by_number (λ h. distance (levels_of c.args.self) (levels_of h)) in
    let heads = c.args.heads.now in
    let i = c.loop-i.i in
    let x = c.index-heads-i.result in
    let y = c.index-heads-best.result in
    let told = ap₂ ltb (sym c.distance.ensures) (sym c.distance-in-loop-i.ensures) in
    let best : IsFirstBest (nearer levels_of (levels_of c.args.self)) heads (i + 1) c.if-distance.best =
    elim c.if-distance.branch [
      | then-distance w ↦ rw w.best-is (IsFirstBest-takes order heads i c.loop-i.best x y c.loop-i.invariant.0 c.loop-i-test.true c.index-heads-i.is c.index-heads-best.is (told ∙ lt-ltb _ _ w.if-distance.true))
      | else-distance w ↦ rw w.best-is (IsFirstBest-keeps order heads i c.loop-i.best x y c.loop-i.invariant.0 c.loop-i-test.true c.index-heads-i.is c.index-heads-best.is (told ∙ le-ltb _ _ w.if-distance.false))
    ] in
    (best, λ e. absurd (omega arith))

pub returns : goal.returns
returns c =
    let first = c.loop-i.invariant.0 in
    let end = c.loop-i.auto.i-end in
    record { place = nearest_all levels_of (levels_of c.args.self) _ _ _ first c.loop-i.invariant.1 c.loop-i-test.false end; within = λ l. omega (arith, first.0, end l) }
