use Rattle.p25_gf64.specs.{Symbol.{alpha}, Gf64.{gf64}}
use Rattle.p25_gf64.proofs.{PowerLaws.{power_ne_zero}, SymbolLaws.{alpha_exponents, alpha_ne_zero}}
use Rattle.p25_algebra.proofs.laws.alpha_powers.Goals as goal

pub returns : goal.returns
returns c = record { apart = record { apart = alpha_exponents }; nonzero = λ i. power_ne_zero gf64 alpha i alpha_ne_zero }
