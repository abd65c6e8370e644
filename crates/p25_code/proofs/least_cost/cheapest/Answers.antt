use Rattle.std.proofs.Common.{◌≡◌, ℕ, ◌+◌, ◌^◌, arith, subst}
use Rattle.std.proofs.lemmas.Nat.{pow_pos}
use Rattle.p25_bits.specs.{Bits.{bits_of}, Least.{IsLowestLeast}}
use Rattle.p25_bits.proofs.LeastLaws.{IsLowestLeast-one, IsLowestLeast-less, IsLowestLeast-kept, IsLowestLeast-lowest_least, lowest_least-is}
use Rattle.p25_code.specs.LeastCost.{cheapest_information, information_cost, IsCheapest}
use Rattle.p25_code.proofs.LeastCostLaws.{lowest_is_cheapest, near_is_cheapest, one_shifted}
use Rattle.p25_code.proofs.least_cost.cheapest.Goals as goal
use Rattle.p25_code.proofs.least_cost.cheapest.Goals.{then-cost-least, else-cost-least}
use Rattle.p25_code.proofs.least_cost.cheapest.Given as given

-- the number of the function is the lowest of least cost
lowest : (g : given.Over) (costs : _) → IsLowestLeast (2 ^ g.C.BlockCode.K) (information_cost g.C.BlockCode.encoding_is g.C.BlockCode.K costs)
    (cheapest_information g.C.BlockCode.encoding_is g.C.BlockCode.K costs)
    (information_cost g.C.BlockCode.encoding_is g.C.BlockCode.K costs (cheapest_information g.C.BlockCode.encoding_is g.C.BlockCode.K costs))
unfolding cheapest_information
lowest g costs =
    let k = g.C.BlockCode.K in
    IsLowestLeast-lowest_least _ _ (pow_pos k)

-- so its word is the cheapest
cheapest_is : (g : given.Over) (code : g.C.BlockCode.HasCode) (costs : _) (info : _) → info ≡ cheapest_information g.C.BlockCode.encoding_is g.C.BlockCode.K costs
    → IsCheapest g.C.BlockCode.IsWord g.C.BlockCode.K costs (g.C.BlockCode.encoding_is (bits_of g.C.BlockCode.K info))
cheapest_is g code costs info is =
    let b = g.C.BlockCode in
    let m = g.met.C.BlockCode in
    rw is (lowest_is_cheapest b.IsWord b.N b.K b.encoding_is (g.met.C.NumberCode.encodes code) (m.one_word code) (m.length_of_word code) (m.begins code) costs _ _ (lowest g costs))

pub returns-in-Some-clause-cheapest : goal.returns-in-Some-clause-cheapest
returns-in-Some-clause-cheapest g c = cheapest_is g c.requires.code c.args.costs.now c.in-Some.info c.in-Some.ensures.1

pub returns-in-Some-clause-near : goal.returns-in-Some-clause-near
returns-in-Some-clause-near g c =
    let code = c.requires.code in
    λ margin sent spread is near.
    let b = g.C.BlockCode in
    let m = g.met.C.BlockCode in
    near_is_cheapest b.IsWord b.N b.K b.encoding_is (g.met.C.NumberCode.encodes code) (m.one_word code) (m.length_of_word code)
    (m.begins code) c.args.costs.now b.distance_is margin _ _ sent c.requires.pairs (m.far_apart code)
    (cheapest_is g code c.args.costs.now c.in-Some.info c.in-Some.ensures.1) spread is near

-- the lowest least by the values that a branch left
moved : (i a b m n : ℕ) (value : ℕ → ℕ) → a ≡ b → m ≡ n → IsLowestLeast (i + 1) value b n → IsLowestLeast (i + 1) value a m
moved i a b m n value number least is = rw number (rw least is)

pub loop-info-init : goal.loop-info-init
loop-info-init g c = IsLowestLeast-one _ c.cost_by-least.result (omega arith)

pub loop-info-preserved : goal.loop-info-preserved
loop-info-preserved g c =
    let loop = c.loop-info in
    let if_cost_least = c.if-cost-least in
    let cost_here = c.cost_by-cost.result in
    let value = information_cost g.C.BlockCode.encoding_is g.C.BlockCode.K c.args.costs.now in
    let new = c.cost_by-cost.ensures.value c.args.costs.now c.requires.costs c.group_sums-sums.ensures.sums in
    elim if_cost_least.branch [
      | then-cost-least w ↦
          moved loop.info if_cost_least.best loop.info if_cost_least.least cost_here value w.best-is w.least-is
          (IsLowestLeast-less loop.info value loop.best loop.least cost_here loop.invariant new w.if-cost-least.true)
      | else-cost-least w ↦
          moved loop.info if_cost_least.best loop.best if_cost_least.least loop.least value w.best-is w.least-is
          (IsLowestLeast-kept loop.info value loop.best loop.least cost_here loop.invariant new (omega arith))
    ]

value_is : goal.returns-clause-value
unfolding cheapest_information
value_is g c =
    let loop = c.loop-info in
    let b = g.C.BlockCode in
    let value = information_cost b.encoding_is b.K c.args.costs.now in
    let begins = g.met.C.BlockCode.begins c.requires.code in
    lowest_least-is _ value loop.best loop.least (subst (λ n. IsLowestLeast n value loop.best loop.least) (omega (arith, one_shifted c.K.result, pow_pos b.K)) loop.invariant)

pub returns-clause-value : goal.returns-clause-value
returns-clause-value g c = value_is g c

pub returns-clause-cheapest : goal.returns-clause-cheapest
returns-clause-cheapest g c = cheapest_is g c.requires.code c.args.costs.now c.loop-info.best (value_is g c)

pub returns-clause-near : goal.returns-clause-near
returns-clause-near g c =
    let code = c.requires.code in
    λ margin sent spread is near.
    let b = g.C.BlockCode in
    let m = g.met.C.BlockCode in
    near_is_cheapest b.IsWord b.N b.K b.encoding_is (g.met.C.NumberCode.encodes code) (m.one_word code) (m.length_of_word code)
    (m.begins code) c.args.costs.now b.distance_is margin _ _ sent c.requires.pairs (m.far_apart code)
    (cheapest_is g code c.args.costs.now c.loop-info.best (value_is g c)) spread is near
