use Rattle.std.proofs.Common.{ℕ, ◌^◌, ◌≤◌, ◌/◌, List, All, sym, subst}
use Rattle.p25_decide.proofs.{CostsLaws.{word_level_costs-low}, UnitsLaws.{low_word-is}}
use Rattle.p25_decide.proofs.unit.low_word.Goals as goal

pub cheapest-requires-clause-low : goal.cheapest-requires-clause-low
cheapest-requires-clause-low c =
    subst (λ (xs : List ℕ). All (λ cost. cost ≤ 2 ^ 16) xs) (sym c.put_costs.ensures) (word_level_costs-low c.args.levels.now (c.args.at / 2) 8)

pub returns-clause-word : goal.returns-clause-word
returns-clause-word c =
    low_word-is c.args.levels.now c.args.at c.cheapest.result c.encode_number.result c.put_costs.new.costs c.put_costs.ensures c.cheapest.ensures.value c.encode_number.ensures.encoding
