use Rattle.p25_gf64.proofs.SymbolLaws.{zero_made, one_made}
use Rattle.p25_gf64.proofs.symbol.Sym.named.Goals as goal

pub returns : goal.returns
returns c = record { zero = zero_made _; one = one_made _ }
