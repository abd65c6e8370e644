use Rattle.std.proofs.Common.{◌≡◌, ◌≢◌, ℕ, ◌+◌, ◌*◌, ◌/◌, ◌^◌, ◌<◌, ◌≤◌, length, get_or, arith, ap, ap₂, sym, subst, ◌∙◌, below_more, get_or-set_same, get_or-set_other}
use Rattle.p25_bits.specs.Least.{least_beside}
use Rattle.p25_code.specs.LeastCost.{cheapest_information, information_cost, least_cost, second_cost}
use Rattle.p25_coded_fields.specs.Decided.{information_at, least_at, second_at, word_costs, inner_words}
use Rattle.p25_coded_fields.proofs.SymbolsLaws.{group_is}
use Rattle.p25_coded_fields.proofs.decide.weigh.Goals as goal

pub loop-i-preserved : goal.loop-i-preserved
unfolding information_at least_at second_at least_cost second_cost
loop-i-preserved g c =
    let b = g.I.BlockCode in
    let leasts = c.loop-i.leasts in
    let seconds = c.loop-i.seconds in
    let i = c.loop-i.i in
    let costs = c.args.costs.now in
    let margin = c.cost_margin-margin.result in
    let inside : i < length leasts = omega (arith, c.loop-i.auto.leasts) in
    let inside_second : i < length seconds = omega (arith, c.loop-i.auto.seconds) in
    let size : 2 * c.N-size.result ≡ 2 * b.N = ap (λ n. 2 * n) c.N-size.ensures in
    let own = group_is (2 * c.N-size.result) (2 * b.N) i costs size in
    let value = get_or c.args.infos.now i 0 in
    let words = inner_words (length c.args.infos.now) b.N (b.K / 6) b.encoding_is in
    let info : value ≡ information_at words costs i = c.requires.infos i (omega arith) in
    let least : margin.least ≡ least_at words costs i = c.cost_margin-margin.ensures.least
    ∙ ap₂ (λ k xs. information_cost b.encoding_is k xs value) (sym c.requires.sixes) own
    ∙ ap (information_cost b.encoding_is (6 * (b.K / 6)) (word_costs b.N costs i)) info in
    let second : margin.second ≡ second_at words costs i = c.cost_margin-margin.ensures.second
    ∙ ap₂ (λ k xs. least_beside (2 ^ k) (information_cost b.encoding_is k xs) value) (sym c.requires.sixes) own
    ∙ ap (least_beside (2 ^ (6 * (b.K / 6))) (information_cost b.encoding_is (6 * (b.K / 6)) (word_costs b.N costs i))) info in
    record {
      leasts = below_more _ _
          (λ j less. let ne : j ≢ i = omega arith in get_or-set_other leasts i j margin.least 0 ne ∙ c.loop-i.invariant.leasts j less)
          (get_or-set_same leasts i margin.least 0 inside ∙ least);
      seconds = below_more _ _
          (λ j less. let ne : j ≢ i = omega arith in get_or-set_other seconds i j margin.second 0 ne ∙ c.loop-i.invariant.seconds j less)
          (get_or-set_same seconds i margin.second 0 inside_second ∙ second);
      low_leasts = below_more _ _
          (λ j less. let ne : j ≢ i = omega arith in omega (arith, get_or-set_other leasts i j margin.least 0 ne, c.loop-i.invariant.low_leasts j less))
          (omega (arith, get_or-set_same leasts i margin.least 0 inside, c.cost_margin-margin.ensures.low.0));
      low_seconds = below_more _ _
          (λ j less. let ne : j ≢ i = omega arith in omega (arith, get_or-set_other seconds i j margin.second 0 ne, c.loop-i.invariant.low_seconds j less))
          (omega (arith, get_or-set_same seconds i margin.second 0 inside_second, c.cost_margin-margin.ensures.low.1));
    }
