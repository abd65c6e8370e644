use Rattle.std.proofs.Common.{◌≡◌, ◌*◌, ◌/◌, ◌<◌, ◌≤◌, false, List, length, replicate, slice_index, refl, ap, ap₂, sym, ◌∙◌, arith}
use Rattle.std.specs.Option.{is_some}
use Rattle.p25_code.specs.Erasures.{without_erased}
use Rattle.p25_gf64.specs.declared.symbol.Sym.{Sym}
use Rattle.p25_coded_fields.specs.Decided.{InnerWords, inner_words, symbols_read}
use Rattle.p25_coded_fields.proofs.DecidedLaws.{decided_whole, none_from, none_kept, symbols_same, words_put}
use Rattle.p25_coded_fields.proofs.decide.decide_words.Goals as goal

pub read_ordered-requires-clause-read : goal.read_ordered-requires-clause-read
read_ordered-requires-clause-read g c =
    let b = g.I.BlockCode in
    let costs = c.args.costs.now in
    let words = inner_words (length c.args.infos.now) b.N (b.K / 6) b.encoding_is in
    let put = words_put words costs _ _ (slice_index c.read_words.new.infos) c.put_words.new.word c.put_words.ensures
    (ap (λ n. n / 6) c.K.ensures) c.read_words.auto.infos c.read_words.ensures.each in
    none_kept c.put_words.new.word c.read_whole.new.word _ c.read_whole.ensures.word (none_from _ (sym c.if-read_whole.false ∙ c.read_whole.ensures.found))
    ∙ put ∙ ap (λ n. symbols_read (inner_words n b.N (b.K / 6) b.encoding_is) costs) (sym c.read_words.auto.infos)

pub read_ordered-requires-clause-none : goal.read_ordered-requires-clause-none
read_ordered-requires-clause-none g c =
    let none = none_from _ (sym c.if-read_whole.false ∙ c.read_whole.ensures.found) in
    let same = none_kept c.put_words.new.word c.read_whole.new.word _ c.read_whole.ensures.word none in
    ap (λ (xs : List Sym). g.O.ErasedCode.erased_reading_is (without_erased xs (replicate (length xs) false))) same ∙ none

pub returns-then-read_whole-clause-word : goal.returns-then-read_whole-clause-word
returns-then-read_whole-clause-word g c =
    let b = g.I.BlockCode in
    let costs = c.args.costs.now in
    let outer = g.O.ErasedCode.erased_reading_is in
    let words = inner_words (length c.args.infos.now) b.N (b.K / 6) b.encoding_is in
    let put = words_put words costs _ _ (slice_index c.read_words.new.infos) c.put_words.new.word c.put_words.ensures
    (ap (λ n. n / 6) c.K.ensures) c.read_words.auto.infos c.read_words.ensures.each in
    let whole : b.K / 6 * length c.args.infos.now ≡ length c.put_words.new.word = omega arith in
    c.read_whole.ensures.word
    ∙ symbols_same outer words costs c.args.most c.put_words.new.word _ put
    (decided_whole outer words costs c.args.most c.put_words.new.word _ put whole refl (sym c.if-read_whole.true ∙ c.read_whole.ensures.found))

pub returns-then-read_whole-clause-found : goal.returns-then-read_whole-clause-found
returns-then-read_whole-clause-found g c =
    let b = g.I.BlockCode in
    let costs = c.args.costs.now in
    let outer = g.O.ErasedCode.erased_reading_is in
    let words = inner_words (length c.args.infos.now) b.N (b.K / 6) b.encoding_is in
    let put = words_put words costs _ _ (slice_index c.read_words.new.infos) c.put_words.new.word c.put_words.ensures
    (ap (λ n. n / 6) c.K.ensures) c.read_words.auto.infos c.read_words.ensures.each in
    let whole : b.K / 6 * length c.args.infos.now ≡ length c.put_words.new.word = omega arith in
    sym c.if-read_whole.true ∙ c.read_whole.ensures.found
    ∙ ap is_some (decided_whole outer words costs c.args.most c.put_words.new.word _ put whole refl (sym c.if-read_whole.true ∙ c.read_whole.ensures.found))
