use Rattle.p25_trellis.proofs.{PathLaws.{power-pos}, DistanceLaws.{IsFirstLeastReading-same}}
use Rattle.p25_soft.proofs.{PointLaws.{path_cost-soft}, SoftLaws.{same_soft}}
use Rattle.p25_soft.proofs.reading.read_soft.Goals as goal

pub returns-clause-least : goal.returns-clause-least
returns-clause-least g c =
    IsFirstLeastReading-same
    (path_cost-soft g.R.Rate.STATES g.R.Rate.point_of c.args.levels.now c.level_costs.result
    (power-pos g.R.Rate.BITS_PER_SYMBOL g.R.Rate.STATES g.met.R.Rate.table.states_of_bits) g.met.R.Rate.table.nibbles c.level_costs.ensures.costs c.requires.levels)
    c.read_costs.ensures

pub returns-clause-octets : goal.returns-clause-octets
returns-clause-octets g c =
    same_soft g.R.Rate.STATES g.R.Rate.BITS_PER_SYMBOL g.R.Rate.point_of c.args.levels.now c.read_costs.new.octets c.read_costs.result
    (power-pos g.R.Rate.BITS_PER_SYMBOL g.R.Rate.STATES g.met.R.Rate.table.states_of_bits)
    (returns-clause-least g c)
