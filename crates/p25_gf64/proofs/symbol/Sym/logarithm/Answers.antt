use Rattle.p25_gf64.proofs.TableLaws.{logarithm_entry-lt, logarithm_entry_is}
use Rattle.p25_gf64.proofs.symbol.Sym.logarithm.Goals as goal

pub returns : goal.returns
returns c = record { below = logarithm_entry-lt c.args.self c.requires; power = logarithm_entry_is c.args.self c.requires }
