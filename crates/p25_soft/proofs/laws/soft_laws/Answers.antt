use Rattle.std.proofs.Common.{◌≡◌, ◌*◌, length, arith}
use Rattle.p25_trellis.proofs.PathLaws.{power-pos}
use Rattle.p25_soft.proofs.SoftLaws.{soft_reading, near_octets}
use Rattle.p25_soft.proofs.laws.soft_laws.Goals as goal

pub returns-clause-reading : goal.returns-clause-reading
returns-clause-reading g c =
    λ levels. soft_reading g.R.Rate.STATES g.R.Rate.BITS_PER_SYMBOL g.R.Rate.point_of levels (power-pos g.R.Rate.BITS_PER_SYMBOL g.R.Rate.STATES g.met.R.Rate.table.states_of_bits)

pub returns-clause-near : goal.returns-clause-near
returns-clause-near g c =
    λ octets levels count small long near.
    let whole : length octets ≡ 6 * g.R.Rate.BITS_PER_SYMBOL = omega (arith, count, g.met.R.Rate.table.octets_of_bits) in
    near_octets g.R.Rate.STATES g.R.Rate.BITS_PER_SYMBOL g.R.Rate.APART g.R.Rate.point_of levels octets g.met.R.Rate.table.states_of_bits c.paths_apart.ensures.apart long whole small near
