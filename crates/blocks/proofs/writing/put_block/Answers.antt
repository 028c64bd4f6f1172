use Rattle.std.proofs.Common.{ℕ, ◌*◌, ◌++◌, drop, sym, refl, ap, ◌∙◌, arith}
use Rattle.std.proofs.lemmas.List.{take_all}
use Rattle.blocks.specs.Blocks.{header_bytes, block_bytes}
use Rattle.octets.specs.Output.{put_at}
use Rattle.blocks.proofs.Headers.{length_block}
use Rattle.octets.proofs.Puts.{put_none, put_more, put_front}
use Rattle.blocks.proofs.writing.put_block.Goals as goal

pub loop-i-init : goal.loop-i-init
loop-i-init c = sym (put_none _ _)

pub loop-i-preserved : goal.loop-i-preserved
loop-i-preserved c =
    c.put_header.ensures ∙ (ap (put_at (16 * c.loop-i.i) _) c.loop-i.invariant ∙ put_more header_bytes 16 (λ _. refl) 0 (16 * c.loop-i.i) c.args.headers.now c.loop-i.i _ c.args.out.now c.loop-i-test.true (omega arith) (omega arith))

pub returns : goal.returns
returns c =
    c.loop-i.invariant ∙ (ap (λ hs. put_at 0 (block_bytes hs) c.args.out.now) (take_all _ _ c.loop-i-test.false) ∙ (put_front _ _ ∙ ap (λ (n : ℕ). block_bytes c.args.headers.now ++ drop n c.args.out.now) (length_block c.args.headers.now)))
