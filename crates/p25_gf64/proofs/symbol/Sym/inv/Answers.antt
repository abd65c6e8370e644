use Rattle.std.proofs.Common.{◌∙◌, ap}
use Rattle.p25_gf64.specs.Gf64.{gf64}
use Rattle.p25_gf64.proofs.{FieldLaws.{inverse_from_one}, TableLaws.{inverse_by_logarithm}}
use Rattle.p25_gf64.proofs.symbol.Sym.inv.Goals as goal

pub returns-clause-one : goal.returns-clause-one
returns-clause-one c =
    ap (gf64.mul c.args.self) c.power_below.ensures ∙ inverse_by_logarithm c.args.self c.logarithm.result c.logarithm.ensures.below c.logarithm.ensures.power

pub returns-clause-inverse : goal.returns-clause-inverse
returns-clause-inverse c = inverse_from_one gf64 c.args.self c.power_below.result (returns-clause-one c)
