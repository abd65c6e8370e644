use Rattle.std.proofs.Common.{◌≡◌, ℕ, ◌∙◌, ap, length, true, false, Some, arith}
use Rattle.std.specs.Prelude.{slice_get}
use Rattle.p25_bits.specs.Numbers.{joined_below}
use Rattle.p25_packet_blocks.specs.{ConfirmedParts.{ConfirmedParts}, Heads.{confirmed_head}, declared.packet.Packet.TheVariants.{Confirmed}}
use Rattle.p25_delivery.specs.SentPackets.{wanted_slots}
use Rattle.p25_delivery.proofs.{SentPacketsLaws.{wanted_slot, block_of_octets, blocks_packet-is, wanted_more, wanted_same}, sent.blocks.Goals.{then-get, else-get}}
use Rattle.p25_delivery.proofs.sent.blocks.Goals as goal

pub loop-serial-init : goal.loop-serial-init
unfolding joined_below
loop-serial-init c = record { list = c.new-slots.ensures; len = omega (arith, ap length c.new-slots.ensures) }

pub loop-serial-preserved : goal.loop-serial-preserved
loop-serial-preserved c =
    let message = c.args.message.now in
    elim c.if-get.branch [
      | then-get w ↦
          (let here : slice_get c.args.wanted.now c.loop-serial.serial ≡ Some true = cc in
          let more =
          wanted_more message c.args.wanted.now c.loop-serial.slots w.push.new.self c.loop-serial.serial w.block.result c.loop-serial.invariant.list
          here (block_of_octets message c.of-octets.result c.loop-serial.serial w.block.result c.of-octets.ensures.list w.block.ensures)
          w.push.ensures.list in
          record { list = w.slots-is ∙ more; len = omega (arith, ap length w.slots-is, w.push.ensures.len) })
      | else-get w ↦
          (let here : slice_get c.args.wanted.now c.loop-serial.serial ≡ Some false = cc in
          record { list = w.slots-is ∙ wanted_same message c.args.wanted.now c.loop-serial.slots c.loop-serial.serial c.loop-serial.invariant.list here; len = omega (arith, ap length w.slots-is) })
    ]

pub returns : goal.returns
unfolding wanted_slots
returns c =
    let all : c.loop-serial.serial ≡ c.blocks_for-serial-end.result = omega arith in
    let slots = c.loop-serial.invariant.list ∙ ap (λ (n : ℕ). joined_below n (wanted_slot c.args.message.now c.args.wanted.now)) (all ∙ c.blocks_for-serial-end.ensures.value) in
    let head = c.confirmed-head.ensures.octets ∙ ap (λ (n : ℕ). confirmed_head 1 false n c.pad_for.result c.args.number) c.len.ensures.value in
    cc (blocks_packet-is c.args.number c.args.message.now c.args.wanted.now c.confirmed-head.result c.loop-serial.slots c.pad_for.result head c.pad_for.ensures.value slots)
