use Rattle.std.proofs.Common.{ap, sym, ◌∙◌}
use Rattle.p25_packet_blocks.proofs.UnitLaws.{sent_head_of-read, sent_head_of-unread}
use Rattle.p25_soft.specs.Softened.{blocks_to_follow, told_blocks}
use Rattle.p25_soft.proofs.softening.told_blocks.Goals as goal

pub returns-in-Ok-clause-value : goal.returns-in-Ok-clause-value
unfolding blocks_to_follow told_blocks
returns-in-Ok-clause-value c =
    c.from.ensures ∙ c.blocks-in-Ok.ensures.value ∙ ap told_blocks (sym (sent_head_of-read c.args.sent.now c.in-Ok.read (sym c.in-Ok.ensures.read)))

pub returns-in-Err-clause-value : goal.returns-in-Err-clause-value
unfolding blocks_to_follow told_blocks
returns-in-Err-clause-value c = ap told_blocks (sym (sent_head_of-unread c.args.sent.now _ (sym c.in-Err.ensures.read)))
