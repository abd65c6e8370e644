-- The fields of headers: their bounds, by the sizes of remainders.
use Rattle.std.proofs.Common.{◌<◌, arith}
use Rattle.p25_packet_blocks.specs.{declared.head.PacketHead.{PacketHead}, Heads.{head_blocks}}

pub head_blocks-lt : (head : PacketHead) → head_blocks head < 128
unfolding head_blocks
head_blocks-lt head = omega arith
