use Rattle.std.proofs.Common.{◌*◌, ◌/◌, ◌^◌, ◌≤◌, drop, arith, ap, ◌∙◌, below_more, get_or-set_same, get_or-set_other}
use Rattle.std.proofs.{lemmas.List.Elements.{All-set}, Math.ListN.{length-set}}
use Rattle.p25_bits.specs.Bits.{bits_of}
use Rattle.p25_code.specs.LeastCost.{pairs_cost}
use Rattle.p25_code.proofs.least_cost.group_sums.Goals as goal

pub loop-at-preserved : goal.loop-at-preserved
loop-at-preserved c =
    let loop = c.loop-at in
    let sums = loop.sums in
    let at = loop.at in
    let value = c.group_cost.result in
    record {
      long = length-set sums at value ∙ loop.invariant.long;
      sums = below_more _ _
          (λ k less. get_or-set_other sums at k value 0 (omega arith) ∙ loop.invariant.sums k less)
          (get_or-set_same sums at value 0 (omega (arith, loop.invariant.long)) ∙ c.group_cost.ensures.value);
      low = All-set (λ cost. cost ≤ 2 ^ 18) sums at value c.group_cost.ensures.low loop.invariant.low;
    }

pub returns-clause-sums : goal.returns-clause-sums
returns-clause-sums c = record {
  at = λ k below. c.loop-at.invariant.sums k (omega arith) ∙ ap (λ costs. pairs_cost (drop (12 * (k / 64)) costs) (bits_of 6 k)) c.padded-costs.ensures.list;
}
