use Rattle.std.proofs.Common.{◌/◌, ◌^◌}
use Rattle.std.proofs.lemmas.Nat.{pow_pos}
use Rattle.p25_bits.proofs.LeastLaws.{IsLowestLeast-lowest_least}
use Rattle.p25_code.specs.LeastCost.{IsCheapest, cheapest_information, cheapest_word, information_cost}
use Rattle.p25_code.proofs.LeastCostLaws.{lowest_is_cheapest, near_is_cheapest}
use Rattle.p25_decide.specs.LevelCosts.{word_level_costs}
use Rattle.p25_decide.proofs.CostsLaws.{level_cost-le, word_level_costs-spread}
use Rattle.p25_decide.proofs.laws.codeword_laws.Goals as goal
use Rattle.p25_decide.proofs.laws.codeword_laws.Given as given

-- the codeword of least cost is the cheapest
cheapest_is : (g : given.Over) (code : g.C.BlockCode.HasCode) (costs : _) → IsCheapest g.C.BlockCode.IsWord g.C.BlockCode.K costs (cheapest_word g.C.BlockCode.encoding_is g.C.BlockCode.K costs)
unfolding cheapest_information
cheapest_is g code costs =
    let b = g.C.BlockCode in
    let m = g.met.C.BlockCode in
    let cost = information_cost b.encoding_is b.K costs in
    lowest_is_cheapest b.IsWord b.N b.K b.encoding_is (g.met.C.NumberCode.encodes code) (m.one_word code) (m.length_of_word code) (m.begins code) costs _ _
    (IsLowestLeast-lowest_least (2 ^ b.K) cost (pow_pos b.K))

pub returns-clause-most : goal.returns-clause-most
returns-clause-most g c = level_cost-le

pub returns-clause-spread : goal.returns-clause-spread
returns-clause-spread g c = word_level_costs-spread

pub returns-clause-least : goal.returns-clause-least
returns-clause-least g c = λ code levels first. cheapest_is g code (word_level_costs levels first (g.C.BlockCode.N / 2))

pub returns-clause-near : goal.returns-clause-near
returns-clause-near g c = λ code even levels first sent is near.
    let b = g.C.BlockCode in
    let m = g.met.C.BlockCode in
    let costs = word_level_costs levels first (b.N / 2) in
    near_is_cheapest b.IsWord b.N b.K b.encoding_is (g.met.C.NumberCode.encodes code) (m.one_word code) (m.length_of_word code) (m.begins code) costs
    b.distance_is 1024 (b.N / 2) _ sent even (m.far_apart code) (cheapest_is g code costs) (word_level_costs-spread levels first (b.N / 2)) is near
