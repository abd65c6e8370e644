use Rattle.std.proofs.Common.{◌≡◌, ℕ, Bool, not, List, Ok, Err, Result, ap, sym, ◌∙◌}
use Rattle.p25_status.specs.declared.fields.Field.{Field}
use Rattle.p25_packet_blocks.specs.{declared.packet.Packet.{Packet}, UnitReading.{packet_unit_of}}
use Rattle.p25_stations.specs.{declared.air.Carried.TheVariants.{Heard}, Air.{received_bits, with_flips, transmission_of}}
use Rattle.p25_stations.proofs.AirLaws.{carried-lost, carried-foreign, carried-heard}
use Rattle.p25_stations.proofs.air.carry.Goals as goal

-- the decoding of the received bits
reading : (packet : Packet) (flips : List ℕ) (sent received : List Bool) (given read : Result (ℕ × Packet) Field)
    → sent ≡ transmission_of packet → received ≡ with_flips sent flips → given ≡ packet_unit_of received → given ≡ read →
    packet_unit_of (received_bits packet flips) ≡ read
reading packet flips sent received given read s r g e = cc

pub returns-in-Err : goal.returns-in-Err
returns-in-Err c =
    sym (carried-lost c.args.packet.now c.args.flips.now c.in-Err.field
    (reading c.args.packet.now c.args.flips.now c.transmit.new.out c.invert.new.bits c.read_packet_unit.result
    (Err c.in-Err.field) c.transmit.ensures.bits c.invert.ensures.bits c.read_packet_unit.ensures c.in-Err.is))

pub returns-in-Ok : goal.returns-in-Ok
returns-in-Ok c =
    sym (carried-foreign c.args.packet.now c.args.flips.now c.in-Ok.nac c.in-Ok.field-0-1
    (reading c.args.packet.now c.args.flips.now c.transmit.new.out c.invert.new.bits c.read_packet_unit.result
    (Ok (c.in-Ok.nac, c.in-Ok.field-0-1)) c.transmit.ensures.bits c.invert.ensures.bits c.read_packet_unit.ensures c.in-Ok.is)
    c.if-nac-ne-NAC.true)

pub returns-in-Ok-2 : goal.returns-in-Ok-2
returns-in-Ok-2 c =
    let heard = carried-heard c.args.packet.now c.args.flips.now c.in-Ok.nac c.in-Ok.field-0-1
    (reading c.args.packet.now c.args.flips.now c.transmit.new.out c.invert.new.bits c.read_packet_unit.result
    (Ok (c.in-Ok.nac, c.in-Ok.field-0-1)) c.transmit.ensures.bits c.invert.ensures.bits c.read_packet_unit.ensures c.in-Ok.is)
    c.if-nac-ne-NAC.false in
    cc
