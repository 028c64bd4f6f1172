use Rattle.std.proofs.Common.{◌≡◌, ◌≤◌, length, rules, ap, ◌∙◌, arith}
use Rattle.std.proofs.lemmas.Bool.{le-ltb}
use Rattle.octets.specs.Output.{put_at}
use Rattle.octets.proofs.Puts.{put_front}
use Rattle.lines.proofs.write_line.Goals as goal

pub returns-clause-out : goal.returns-clause-out
returns-clause-out g c =
    let line = g.L.Line.text c.args.line.now in
    let out = c.args.out.now in
    let fits : length line ≤ length out = omega arith in
    let e : c.print-2.new.cursor.out.now ≡ put_at 0 line out = c.print-2.ensures.out (omega (arith, ap length c.new-cursor.ensures.out)) ∙ cc in
    rw (le-ltb _ _ fits) (let f = e ∙ put_front line out in search rules)
