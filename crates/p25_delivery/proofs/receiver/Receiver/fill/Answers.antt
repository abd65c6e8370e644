use Rattle.std.proofs.Common.{◌≡◌, ◌∙◌, Some, ap}
use Rattle.p25_packet_blocks.specs.Heads.{head_number}
use Rattle.p25_delivery.specs.ReceiverRules.{filled, keeping_for}
use Rattle.p25_delivery.proofs.ReceiverSteps.{filled-whole}
use Rattle.p25_delivery.proofs.receiver.Receiver.fill.Goals as goal

pub returns-in-Some-octets : goal.returns-in-Some-octets
returns-in-Some-octets c =
    let packet = c.args.packet.now in
    let kept : Some c.in-Some.kept ≡ keeping_for c.args.self.now.kept packet.head = cc in
    let number : c.number-number.result ≡ head_number packet.head = cc in
    let pad : c.pad.result ≡ c.in-Some.kept.pad = c.pad.ensures ∙ c.put.ensures.pad in
    cc (filled-whole c.args.self.now c.take_kept.new.self packet c.in-Some.kept c.slots.result.now c.put.new.self.places c.in-Some-octets.octets
    c.number-number.result c.pad.result c.message.result (c.finish.new.self, c.finish.result) c.in-Some.ensures.last c.slots.ensures.value
    c.put.ensures.places c.in-Some-octets.ensures.octets number pad c.message.ensures c.finish.ensures)
