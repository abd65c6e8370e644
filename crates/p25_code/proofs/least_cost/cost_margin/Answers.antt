use Rattle.std.proofs.Common.{◌≢◌, ℕ, ◌≤◌, inl, inr, arith, sym, ◌∙◌, below_more}
use Rattle.std.proofs.{lemmas.Bool.{cases_lt}}
use Rattle.p25_bits.proofs.LeastLaws.{least_beside-is}
use Rattle.p25_code.specs.LeastCost.{information_cost}
use Rattle.p25_code.proofs.LeastCostLaws.{power-le, one_shifted}
use Rattle.p25_code.proofs.least_cost.cost_margin.Goals as goal
use Rattle.p25_code.proofs.least_cost.cost_margin.Goals.{then-info-eq0, else-info-eq0, then-other-info, else-other-info}

pub cost_by-second-requires-clause-info : goal.cost_by-second-requires-clause-info
cost_by-second-requires-clause-info g c =
    let two = power-le 1 g.C.BlockCode.K c.requires.some in
    elim c.if-info-eq0.branch [
      | then-info-eq0 w ↦ omega (arith, two, w.first-is)
      | else-info-eq0 w ↦ omega (arith, two, w.first-is)
    ]

pub loop-other-init : goal.loop-other-init
loop-other-init g c =
    let k = g.C.BlockCode.K in
    let if_info_eq0 = c.if-info-eq0 in
    let two = power-le 1 k c.requires.some in
    record {
      some = (
        if_info_eq0.first,
        (elim if_info_eq0.branch [
          | then-info-eq0 w ↦ omega (arith, two, w.first-is)
          | else-info-eq0 w ↦ omega (arith, two, w.first-is)
        ]),
        (elim if_info_eq0.branch [
          | then-info-eq0 w ↦ λ e. absurd (omega (arith, w.first-is, w.if-info-eq0.true, e))
          | else-info-eq0 w ↦ λ e. absurd (w.if-info-eq0.false (sym e ∙ w.first-is))
        ]),
        sym (c.cost_by-second.ensures.value c.args.costs.now c.requires.costs c.group_sums-sums.ensures.sums),
      );
      none_less = λ j less ne. absurd (omega arith);
      low = c.cost_by-second.ensures.low;
    }

pub loop-other-preserved : goal.loop-other-preserved
loop-other-preserved g c =
    let blockcode = g.C.BlockCode in
    let loop = c.loop-other in
    let begins = g.met.C.BlockCode.begins c.requires.code in
    let old = loop.invariant in
    let other = loop.other in
    let some = old.some in
    let P : ℕ → Type 0 = λ j. j ≢ c.args.info → c.if-other-info.second ≤ (information_cost blockcode.encoding_is blockcode.K c.args.costs.now) j in
    elim c.if-other-info.branch [
      | then-other-info w ↦
          let is = w.cost_by.ensures.value c.args.costs.now c.requires.costs c.group_sums-sums.ensures.sums in
          elim (cases_lt w.cost_by.result loop.second) [
            | inl less ↦
                record {
                  some = (other, (omega (arith, one_shifted c.K.result)), w.if-other-info.true, sym is ∙ sym (omega (arith, w.second-is, w.min-second.ensures)));
                  none_less = below_more P other (λ j l ne. omega (arith, old.none_less j)) (λ ne. omega (arith, is));
                  low = omega (arith, old.low);
                }
            | inr not_less ↦
                record {
                  some = (some.0, some.1, some.2, some.3 ∙ sym (omega (arith, w.second-is, w.min-second.ensures)));
                  none_less = below_more P other (λ j l ne. omega (arith, old.none_less j)) (λ ne. omega (arith, is));
                  low = omega (arith, old.low);
                }
          ]
      | else-other-info w ↦ record {
        some = (some.0, some.1, some.2, some.3 ∙ sym w.second-is);
        none_less = below_more P other (λ j l ne. omega (arith, old.none_less j, w.second-is)) (λ ne. absurd (ne w.if-other-info.false));
        low = omega (arith, old.low, w.second-is);
      }
    ]

pub returns-clause-second : goal.returns-clause-second
returns-clause-second g c =
    let b = g.C.BlockCode in
    let begins = g.met.C.BlockCode.begins c.requires.code in
    let some = c.loop-other.invariant.some in
    least_beside-is _ _ c.args.info c.loop-other.second c.requires.info (record {
      number = some.0;
      below = some.1;
      other = some.2;
      is = some.3;
      none_less = λ j below ne. c.loop-other.invariant.none_less j (omega (arith, (one_shifted c.K.result))) ne;
    })
