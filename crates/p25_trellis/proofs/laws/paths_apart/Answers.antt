use Rattle.p25_trellis.proofs.{ApartLaws.{same_from_sent_bits}, PathLaws.{power-pos}}
use Rattle.p25_trellis.proofs.laws.paths_apart.Goals as goal

pub returns-clause-apart : goal.returns-clause-apart
returns-clause-apart g c =
    let rate = g.R.Rate in
    let law = g.met.R.Rate.table in
    same_from_sent_bits rate.STATES rate.APART rate.point_of rate.parted (power-pos rate.BITS_PER_SYMBOL rate.STATES law.states_of_bits) law.together law.stays_parted law.parts

pub returns-clause-reached : goal.returns-clause-reached
returns-clause-reached g c = g.met.R.Rate.table.reached
