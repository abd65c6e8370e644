use Rattle.std.proofs.Common.{◌≡◌, ◌+◌, ◌/◌, eqb, ap, ◌∙◌, arith}
use Rattle.p25_packet_blocks.specs.Heads.{head_format, head_is_full, head_blocks, head_llid, response_class, response_kind, response_status, response_head}
use Rattle.p25_packet_blocks.proofs.HeadSteps.{octets_back}
use Rattle.p25_packet_blocks.proofs.head.PacketHead.response.Goals as goal

pub returns-clause-octets : goal.returns-clause-octets
unfolding response_head
returns-clause-octets c = c.head_by_octets.ensures

pub returns-clause-format : goal.returns-clause-format
unfolding head_format
returns-clause-format c = ap head_format c.head_by_octets.ensures

pub returns-clause-full : goal.returns-clause-full
unfolding head_is_full
returns-clause-full c =
    let one : (128 + c.args.blocks) / 128 ≡ 1 = omega (arith, c.requires.blocks) in ap head_is_full c.head_by_octets.ensures ∙ ap (λ n. eqb n 1) one

pub returns-clause-blocks : goal.returns-clause-blocks
unfolding head_blocks
returns-clause-blocks c = ap head_blocks c.head_by_octets.ensures ∙ omega (arith, c.requires.blocks)

pub returns-clause-class : goal.returns-clause-class
unfolding response_class
returns-clause-class c = ap response_class c.head_by_octets.ensures ∙ omega (arith, c.requires.kind, c.requires.status)

pub returns-clause-kind : goal.returns-clause-kind
unfolding response_kind
returns-clause-kind c = ap response_kind c.head_by_octets.ensures ∙ omega (arith, c.requires.kind, c.requires.status)

pub returns-clause-status : goal.returns-clause-status
unfolding response_status
returns-clause-status c = ap response_status c.head_by_octets.ensures ∙ omega (arith, c.requires.status)

pub returns-clause-llid : goal.returns-clause-llid
unfolding head_llid
returns-clause-llid c = ap head_llid c.head_by_octets.ensures ∙ octets_back c.args.llid
