use Rattle.p25_gf64.proofs.TableLaws.{power_entry-lt, power_entry_is}
use Rattle.p25_gf64.proofs.symbol.Sym.power_below.Goals as goal

pub invariant_of-result : goal.invariant_of-result
invariant_of-result c = record { below = power_entry-lt c.args.exponent c.requires }

pub returns : goal.returns
returns c = power_entry_is c.args.exponent c.requires _
