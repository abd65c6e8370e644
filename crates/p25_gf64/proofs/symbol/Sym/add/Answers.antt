use Rattle.std.proofs.Common.{sym}
use Rattle.p25_gf64.specs.{ProductLaws.{xor_below}, Symbol.{same_symbol}, Gf64.{gf64}}
use Rattle.p25_gf64.proofs.SymbolLaws.{number-add}
use Rattle.p25_gf64.proofs.symbol.Sym.add.Goals as goal

pub invariant_of-result : goal.invariant_of-result
invariant_of-result c = record { below = xor_below c.args.self.value c.args.other.value c.args.self.below c.args.other.below }

pub returns-clause-sum : goal.returns-clause-sum
returns-clause-sum c =
    same_symbol _ (gf64.add c.args.self c.args.other) (sym (number-add c.args.self c.args.other))
