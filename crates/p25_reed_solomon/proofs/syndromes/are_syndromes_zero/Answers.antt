use Rattle.std.proofs.Common.{sym, ◌∙◌, arith}
use Rattle.p25_gf64.proofs.SymbolLaws.{zero_from_number}
use Rattle.p25_reed_solomon.proofs.syndromes.are_syndromes_zero.Goals as goal

pub returns-then-are_zero-clause-clean : goal.returns-then-are_zero-clause-clean
returns-then-are_zero-clause-clean c = λ same r low.
    zero_from_number _ (sym (c.values_of-values.ensures r (omega arith)) ∙ c.are_zero.ensures c.if-are_zero.true r low)
