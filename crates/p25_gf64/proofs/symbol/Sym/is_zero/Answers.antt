use Rattle.std.proofs.{Common.{◌∙◌, ap}, lemmas.Bool.{eqb-true, eq-eqb}}
use Rattle.p25_gf64.specs.Symbol.{number}
use Rattle.p25_gf64.proofs.SymbolLaws.{number_zero, zero_from_number}
use Rattle.p25_gf64.proofs.symbol.Sym.is_zero.Goals as goal

pub returns : goal.returns
returns c =
    (λ test. zero_from_number c.args.self (eqb-true (number c.args.self) 0 test), λ same. eq-eqb (number c.args.self) 0 (ap number same ∙ number_zero))
