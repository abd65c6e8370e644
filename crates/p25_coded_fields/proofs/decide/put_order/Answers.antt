use Rattle.std.proofs.Common.{◌≡◌, ◌/◌, ◌<◌, length, slice_index, ap, arith, ◌∙◌}
use Rattle.p25_coded_fields.specs.Decided.{rank_at, rank_of, stands_before, least_at, second_at, inner_words}
use Rattle.p25_coded_fields.proofs.{ReadLaws.{cut_long}, DecidedLaws.{rank_same}}
use Rattle.p25_coded_fields.proofs.decide.put_order.Goals as goal

pub returns-clause-each : goal.returns-clause-each
unfolding rank_at
returns-clause-each g c = λ i inside.
    let b = g.I.BlockCode in
    let infos = c.args.infos.now in
    let words = inner_words (length infos) b.N (b.K / 6) b.encoding_is in
    let leasts = c.weigh.new.leasts in
    let seconds = c.weigh.new.seconds in
    let long : length leasts ≡ length infos = cut_long (length infos) _ leasts c.weigh.auto.leasts (omega arith) in
    let here : i < length leasts = omega (arith, inside) in
    c.put_ranks.ensures.each i here
    ∙ ap (λ n. rank_of n (stands_before (slice_index leasts) (slice_index seconds)) i) long
    ∙ rank_same (length infos) (slice_index leasts) (least_at words c.args.costs.now) (slice_index seconds) (second_at words c.args.costs.now) i inside
    c.weigh.ensures.leasts c.weigh.ensures.seconds
