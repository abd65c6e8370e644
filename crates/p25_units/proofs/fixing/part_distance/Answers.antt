use Rattle.std.proofs.Common.{ap, length, arith}
use Rattle.std.specs.Bool.{beq}
use Rattle.p25_bits.proofs.DistanceLaws.{distance_by-le}
use Rattle.p25_units.proofs.fixing.part_distance.Goals as goal

pub returns-clause-most : goal.returns-clause-most
returns-clause-most c = omega (arith, c.distance.ensures, distance_by-le beq c.append.new.self c.append-2.new.self, c.append.ensures.len, ap length c.new-here.ensures)
