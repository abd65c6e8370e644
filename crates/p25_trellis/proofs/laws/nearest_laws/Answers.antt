use Rattle.std.proofs.Common.{arith}
use Rattle.p25_trellis.specs.Nearest.{nearest_octets, nearest_distance, block_from}
use Rattle.p25_trellis.proofs.{ApartLaws.{same_from_sent_bits, IsNearReading-from}, NearestLaws.{nearest_reading, same_nearest, IsBlock-block_from}, PathLaws.{power-pos}}
use Rattle.p25_trellis.proofs.laws.nearest_laws.Goals as goal

pub returns-clause-reading : goal.returns-clause-reading
returns-clause-reading g c =
    let rate = g.R.Rate in
    λ received. nearest_reading rate.STATES rate.BITS_PER_SYMBOL rate.point_of received (power-pos rate.BITS_PER_SYMBOL rate.STATES g.met.R.Rate.table.states_of_bits)

pub returns-clause-only : goal.returns-clause-only
returns-clause-only g c =
    let rate = g.R.Rate in
    λ received octets distance reading. same_nearest rate.STATES rate.BITS_PER_SYMBOL rate.point_of received octets distance
    (power-pos rate.BITS_PER_SYMBOL rate.STATES g.met.R.Rate.table.states_of_bits) reading

pub returns-clause-block : goal.returns-clause-block
returns-clause-block g c =
    let rate = g.R.Rate in
    λ octets long small.
    IsBlock-block_from rate.STATES rate.BITS_PER_SYMBOL rate.point_of octets g.met.R.Rate.table.states_of_bits (omega (arith, long, g.met.R.Rate.table.octets_of_bits)) small

pub returns-clause-near : goal.returns-clause-near
returns-clause-near g c =
    let rate = g.R.Rate in
    let law = g.met.R.Rate.table in
    let states = rate.STATES in
    let width = rate.BITS_PER_SYMBOL in
    let point = rate.point_of in
    let some = power-pos width states law.states_of_bits in
    λ octets received long small all near.
    let reading
    = IsNearReading-from states width rate.APART point received (nearest_octets states width point received) (nearest_distance states point received)
    (same_from_sent_bits states rate.APART point rate.parted some law.together law.stays_parted law.parts)
    all
    (nearest_reading states width point received some) in
    let is = returns-clause-block g c octets long small in
    (reading.near_octets octets (block_from width point octets) is near, reading.near_distance octets (block_from width point octets) is near)
