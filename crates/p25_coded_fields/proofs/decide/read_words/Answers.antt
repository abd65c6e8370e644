use Rattle.std.proofs.Common.{◌≡◌, ◌≢◌, ℕ, ◌+◌, ◌*◌, ◌/◌, ◌^◌, ◌<◌, length, arith, ap, ap₂, sym, subst, ◌∙◌, below_more, get_or-set_same, get_or-set_other}
use Rattle.p25_code.specs.LeastCost.{cheapest_information}
use Rattle.p25_coded_fields.specs.Decided.{information_at}
use Rattle.p25_coded_fields.proofs.SymbolsLaws.{group_is}
use Rattle.p25_coded_fields.proofs.decide.read_words.Goals as goal

pub loop-i-preserved : goal.loop-i-preserved
unfolding information_at
loop-i-preserved g c =
    let b = g.I.BlockCode in
    let infos = c.loop-i.infos in
    let i = c.loop-i.i in
    let info = c.cheapest.result in
    let inside : i < length infos = omega (arith, c.loop-i.auto.infos) in
    let size : 2 * c.N-size.result ≡ 2 * b.N = ap (λ n. 2 * n) c.N-size.ensures in
    record {
      each = below_more _ _
          (λ j less. let ne : j ≢ i = omega arith in get_or-set_other infos i j info 0 ne ∙ c.loop-i.invariant.each j less)
          (get_or-set_same infos i info 0 inside ∙ c.cheapest.ensures.value
          ∙ ap₂ (λ k xs. cheapest_information b.encoding_is k xs) (sym c.requires.sixes) (group_is (2 * c.N-size.result) (2 * b.N) i c.args.costs.now size));
      low = below_more _ _
          (λ j less. let ne : j ≢ i = omega arith in subst (λ v. v < 2 ^ b.K) (sym (get_or-set_other infos i j info 0 ne)) (c.loop-i.invariant.low j less))
          (subst (λ v. v < 2 ^ b.K) (sym (get_or-set_same infos i info 0 inside)) c.cheapest.ensures.fits);
    }
