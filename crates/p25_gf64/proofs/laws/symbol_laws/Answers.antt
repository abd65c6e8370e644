use Rattle.std.proofs.lemmas.Bool.{eqb-true}
use Rattle.p25_gf64.specs.Symbol.{number, same_symbol}
use Rattle.p25_gf64.proofs.SymbolLaws.{number_zero, number_one, number_alpha}
use Rattle.p25_gf64.proofs.laws.symbol_laws.Goals as goal

pub returns : goal.returns
returns c = record {
  same = same_symbol;
  equal = λ x y test. same_symbol x y (eqb-true (number x) (number y) test);
  zero = number_zero;
  one = number_one;
  alpha = number_alpha;
}
