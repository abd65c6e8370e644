use Rattle.p25_gf64.proofs.{SymbolLaws.{alpha_to_63, alpha_exponents}, TableLaws.{alpha_exponent_of}}
use Rattle.p25_gf64.proofs.laws.alpha_order.Goals as goal

pub returns : goal.returns
returns c = record {
  one = alpha_to_63;
  apart = alpha_exponents;
  all = alpha_exponent_of;
}
