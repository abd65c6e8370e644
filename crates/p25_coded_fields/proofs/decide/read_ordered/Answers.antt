use Rattle.std.proofs.Common.{◌≡◌, ◌*◌, ◌/◌, ◌<◌, ◌≤◌, length, slice_index, ap, ap₂, ◌∙◌, arith}
use Rattle.std.specs.Option.{is_some}
use Rattle.p25_coded_fields.specs.Decided.{InnerWords, inner_words}
use Rattle.p25_coded_fields.proofs.{ReadLaws.{cut_long}, DecidedLaws.{decided_same, first_reading, symbols_same}}
use Rattle.p25_coded_fields.proofs.decide.read_ordered.Goals as goal

pub read_erasing-requires-clause-none : goal.read_erasing-requires-clause-none
read_erasing-requires-clause-none g c =
    let long : length c.put_order.new.ranks ≡ length c.args.infos.now = cut_long (length c.args.infos.now) _ c.put_order.new.ranks c.put_order.auto.ranks (omega arith) in
    let whole : c.K.result / 6 * length c.put_order.new.ranks ≡ length c.args.word.now
    = ap₂ (λ m n. m / 6 * n) c.K.ensures long ∙ omega arith in
    first_reading g.O.ErasedCode.erased_reading_is c.args.word.now _ _ _ whole ∙ c.requires.none

pub returns-clause-word : goal.returns-clause-word
returns-clause-word g c =
    let b = g.I.BlockCode in
    let words = inner_words (length c.args.infos.now) b.N (b.K / 6) b.encoding_is in
    let long : length c.put_order.new.ranks ≡ length c.args.infos.now = cut_long (length c.args.infos.now) _ c.put_order.new.ranks c.put_order.auto.ranks (omega arith) in
    c.read_erasing.ensures.word
    ∙ symbols_same g.O.ErasedCode.erased_reading_is words c.args.costs.now c.args.most c.args.word.now _ c.requires.read
    (decided_same g.O.ErasedCode.erased_reading_is words c.args.costs.now c.args.most _ _ (slice_index c.put_order.new.ranks) c.args.word.now
    c.requires.read (ap (λ n. n / 6) c.K.ensures) long c.put_order.ensures.each)

pub returns-clause-found : goal.returns-clause-found
returns-clause-found g c =
    let b = g.I.BlockCode in
    let words = inner_words (length c.args.infos.now) b.N (b.K / 6) b.encoding_is in
    let long : length c.put_order.new.ranks ≡ length c.args.infos.now = cut_long (length c.args.infos.now) _ c.put_order.new.ranks c.put_order.auto.ranks (omega arith) in
    c.read_erasing.ensures.found
    ∙ ap is_some (decided_same g.O.ErasedCode.erased_reading_is words c.args.costs.now c.args.most _ _ (slice_index c.put_order.new.ranks) c.args.word.now
    c.requires.read (ap (λ n. n / 6) c.K.ensures) long c.put_order.ensures.each)
