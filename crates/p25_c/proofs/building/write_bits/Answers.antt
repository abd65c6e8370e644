use Rattle.std.proofs.Common.{◌/◌, length, arith}
use Rattle.p25_bits.proofs.NumbersLaws.{length-numbers_from}
use Rattle.p25_units.specs.Units.{whole_octets}
use Rattle.p25_c.proofs.RoomsLaws.{writing-none}
use Rattle.p25_c.proofs.building.write_bits.Goals as goal

pub returns-then-count-room : goal.returns-then-count-room
returns-then-count-room c =
    let bits = c.args.bits.now in
    writing-none (whole_octets bits) c.args.room.now (length bits / 8) (length-numbers_from 8 (length bits / 8) bits) (omega (arith, c.if-count-room.true, c.len-count.ensures.value))
