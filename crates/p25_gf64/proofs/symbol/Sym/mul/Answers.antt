use Rattle.std.proofs.Common.{◌∙◌, sym}
use Rattle.p25_gf64.specs.{Symbol.{same_symbol}, Gf64.{gf64}}
use Rattle.p25_gf64.proofs.SymbolLaws.{number-mul}
use Rattle.p25_gf64.proofs.symbol.Sym.mul.Goals as goal

pub returns-clause-product : goal.returns-clause-product
returns-clause-product c =
    same_symbol _ (gf64.mul c.args.self c.args.other) (c.product.ensures.product ∙ sym (number-mul c.args.self c.args.other))
