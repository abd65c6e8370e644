use Rattle.std.proofs.Common.{◌≡◌, ◌≢◌, ◌+◌, ◌<◌, ◌≤◌, length, arith, ap, sym, subst, ◌∙◌, below_more, get_or-set_same, get_or-set_other}
use Rattle.p25_coded_fields.proofs.decide.put_ranks.Goals as goal

pub loop-i-preserved : goal.loop-i-preserved
loop-i-preserved c =
    let ranks = c.loop-i.ranks in
    let i = c.loop-i.i in
    let value = c.rank.result in
    let inside : i < length ranks = omega arith in
    record {
      each = below_more _ _
          (λ j less. let ne : j ≢ i = omega arith in get_or-set_other ranks i j value 0 ne ∙ c.loop-i.invariant.each j less)
          (get_or-set_same ranks i value 0 inside ∙ c.rank.ensures.value);
      low = below_more _ _
          (λ j less. let ne : j ≢ i = omega arith in omega (arith, get_or-set_other ranks i j value 0 ne, c.loop-i.invariant.low j less))
          (omega (arith, get_or-set_same ranks i value 0 inside, c.rank.ensures.low));
    }
