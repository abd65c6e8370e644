use Rattle.std.proofs.Common.{◌∙◌, sym, arith}
use Rattle.p25_gf64.specs.{Symbol.{alpha}, Gf64.{gf64}}
use Rattle.p25_gf64.proofs.{PowerLaws.{power-mod}, SymbolLaws.{alpha_to_63}}
use Rattle.p25_gf64.proofs.symbol.Sym.pow_alpha.Goals as goal

pub returns : goal.returns
returns c = c.power_below.ensures ∙ sym (power-mod gf64 alpha 63 c.args.exponent alpha_to_63 (omega arith))
