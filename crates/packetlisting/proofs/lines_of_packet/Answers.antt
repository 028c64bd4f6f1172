use Rattle.std.proofs.Common.{◌∙◌, refl}
use Rattle.std.proofs.lemmas.List.{append_assoc}
use Rattle.std.proofs.lemmas.Result.{IfOk-weaker}
use Rattle.packetlisting.proofs.lines_of_packet.Goals as goal

pub returns : goal.returns
returns c = record { text = IfOk-weaker c.line_of.result _ _ (λ t e. e ∙ simp append_assoc refl) c.line_of.ensures.text }
