use Rattle.p25_gf64.proofs.SymbolLaws.{zero_made}
use Rattle.p25_gf64.proofs.symbol.SymDefault.default.Goals as goal

pub returns : goal.returns
returns c = zero_made _
