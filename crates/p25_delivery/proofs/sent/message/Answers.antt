use Rattle.std.proofs.Common.{◌≡◌, ℕ, ◌∙◌, ap, length, map, arith}
use Rattle.p25_bits.specs.Numbers.{each_below}
use Rattle.p25_packet_blocks.specs.{ConfirmedParts.{ConfirmedParts}, declared.packet.Packet.TheVariants.{Confirmed}}
use Rattle.p25_delivery.specs.{MessageBlocks.{message_block}, SentPackets.{good_slot}}
use Rattle.p25_delivery.proofs.SentPacketsLaws.{block_of_octets, slots_more, message_packet-is}
use Rattle.p25_delivery.proofs.sent.message.Goals as goal

pub loop-serial-init : goal.loop-serial-init
unfolding each_below
loop-serial-init c = record { list = c.new-slots.ensures; len = ap length c.new-slots.ensures }

pub loop-serial-preserved : goal.loop-serial-preserved
loop-serial-preserved c = record {
  list =
      slots_more c.args.message.now c.loop-serial.slots c.push.new.self c.loop-serial.serial c.block.result c.loop-serial.invariant.list
      (block_of_octets c.args.message.now c.of-octets.result c.loop-serial.serial c.block.result c.of-octets.ensures.list c.block.ensures)
      c.push.ensures.list;
  len = omega arith;
}

pub returns : goal.returns
returns c =
    let message = c.args.message.now in
    let all : c.loop-serial.serial ≡ c.blocks_for-count.result = omega arith in
    let slots : c.loop-serial.slots ≡ map good_slot (each_below c.blocks_for-count.result (message_block message))
    = cc in
    cc (message_packet-is c.args.number message c.confirmed-head.result c.loop-serial.slots
    c.blocks_for-count.result c.pad_for.result c.confirmed-head.ensures.octets c.blocks_for-count.ensures.value c.pad_for.ensures.value slots)
