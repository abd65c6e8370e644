use Rattle.std.proofs.Common.{◌≡◌, ◌+◌, ◌/◌, eqb, ap, ◌∙◌, arith}
use Rattle.p25_packet_blocks.specs.Heads.{head_format, head_is_full, head_blocks, head_pad, head_llid, plain_head}
use Rattle.p25_packet_blocks.proofs.HeadSteps.{octets_back}
use Rattle.p25_packet_blocks.proofs.head.PacketHead.plain.Goals as goal

pub returns-clause-octets : goal.returns-clause-octets
unfolding plain_head
returns-clause-octets c = c.head_by_octets.ensures

pub returns-clause-format : goal.returns-clause-format
unfolding head_format
returns-clause-format c = ap head_format c.head_by_octets.ensures

pub returns-clause-full : goal.returns-clause-full
unfolding head_is_full
returns-clause-full c =
    let one : (128 + c.args.blocks) / 128 ≡ 1 = omega (arith, c.requires.blocks) in ap head_is_full c.head_by_octets.ensures ∙ ap (λ n. eqb n 1) one

pub returns-clause-blocks : goal.returns-clause-blocks
unfolding head_blocks
returns-clause-blocks c = ap head_blocks c.head_by_octets.ensures ∙ omega (arith, c.requires.blocks)

pub returns-clause-pad : goal.returns-clause-pad
unfolding head_pad
returns-clause-pad c = ap head_pad c.head_by_octets.ensures ∙ omega (arith, c.requires.pad)

pub returns-clause-llid : goal.returns-clause-llid
unfolding head_llid
returns-clause-llid c = ap head_llid c.head_by_octets.ensures ∙ octets_back c.args.llid
