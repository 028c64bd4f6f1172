use Rattle.std.proofs.Common.{ℕ, ◌+◌, ◌*◌, ◌^◌, List, length, refl, ap, ◌∙◌, zero-add, arith}
use Rattle.std.specs.List.{flat_map}
use Rattle.sheets.specs.Format.{sheet_bytes}
use Rattle.sheets.specs.Words.{word_bytes}
use Rattle.octets.specs.Output.{put_at}
use Rattle.octets.proofs.Puts.{put_front, put_next, put_more, put_all, length_joined}
use Rattle.writer.proofs.Sheets.{rule_bytes}
use Rattle.writer.proofs.Sheets.{sheet_by_rule}
use Rattle.writer.proofs.checks.Checked.put.Goals as goal

pub loop-i-preserved : goal.loop-i-preserved
loop-i-preserved c =
    let i = c.loop-i.i in
    c.put_words.ensures
    ∙ ap (λ (ws : List ℕ). put_at (32 * i) (flat_map word_bytes ws) c.loop-i.out) c.words_of_rule.ensures
    ∙ ap (put_at (32 * i) _) c.loop-i.invariant
    ∙ put_more rule_bytes 32 (λ r. refl) 0 (32 * i) c.args.self.rules.now i _ c.args.out.now c.loop-i-test.true (omega arith) (zero-add _)

pub returns : goal.returns
returns c =
    let rules = c.args.self.rules.now in
    let done = c.loop-i.invariant ∙ put_all rule_bytes 32 (λ r. refl) 0 rules c.loop-i.i c.args.out.now c.loop-i-test.false in
    let all = length_joined rule_bytes 32 (λ r. refl) rules in
    let next = put_next 0 (32 * length rules) (flat_map rule_bytes rules) (word_bytes (6 * 2 ^ 29 + length rules)) c.args.out.now (omega arith) (omega arith) in
    let sheet = sheet_by_rule rules in
    let front = put_front (sheet_bytes rules) c.args.out.now in
    cc
