use Rattle.std.proofs.Common.{◌-◌, length, sym, refl, ap, ◌∙◌, arith}
use Rattle.std.proofs.lemmas.Slice.{put_mid-paste}
use Rattle.octets.proofs.Puts.{put_is_paste}
use Rattle.lines.proofs.Puts.{length_put}
use Rattle.lines.proofs.cursor.Cursor.put.Goals as goal
use Rattle.lines.proofs.cursor.Cursor.put.Goals.{then-end-out, else-end-out}

pub returns : goal.returns
returns c =
    let start = c.args.self.now.count in
    let text = c.args.text.now in
    let out = c.args.self.now.out.now in
    elim c.if-end-out.branch [
      | then-end-out w ↦
          let put = put_mid-paste start (c.saturating_add-end.result - start) out w.copy_from_slice.new.self text (length text) w.copy_from_slice.ensures.after (omega arith) refl
          ∙ sym (put_is_paste start text out) in
          rw w.self-is record {
            same_reference = refl;
            same_length = ap length put ∙ length_put start text out (omega arith);
            count = omega arith;
            next = λ h. omega arith;
            out = λ h. put;
          }
      | else-end-out w ↦ rw w.self-is record {
        same_reference = refl;
        same_length = refl;
        count = omega arith;
        next = λ h. omega arith;
        out = λ h. absurd (omega arith);
      }
    ]
