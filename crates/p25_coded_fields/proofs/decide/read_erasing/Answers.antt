use Rattle.std.proofs.Common.{◌≡◌, ℕ, suc, ◌+◌, ◌*◌, ◌<◌, ◌≤◌, Bool, List, Some, None, length, slice_index, refl, ap, ap₂, sym, ◌∙◌, arith, add-one}
use Rattle.std.proofs.lemmas.List.{length-take-le}
use Rattle.p25_code.specs.{Erasures.{without_erased, IsErasedReading}, Readings.{word_read}}
use Rattle.p25_gf64.specs.declared.symbol.Sym.{Sym}
use Rattle.p25_coded_fields.specs.Decided.{first_found, read_marking}
use Rattle.p25_coded_fields.proofs.DecidedLaws.{first_at, first_next, first_none, found_word, found_true}
use Rattle.p25_coded_fields.proofs.decide.read_erasing.Goals as goal

pub loop-pairs-init : goal.loop-pairs-init
loop-pairs-init g c =
    let reading = read_marking g.O.ErasedCode.erased_reading_is c.args.word.now c.args.each (length c.args.ranks.now) (slice_index c.args.ranks.now) in
    record {
      same = refl;
      long = length-take-le (length c.args.word.now) _ (omega arith) ∙ c.requires.word;
      none = first_next 0 reading (first_none reading) ∙ c.requires.none;
    }

pub returns-in-Found-clause-word : goal.returns-in-Found-clause-word
unfolding word_read read_marking
returns-in-Found-clause-word g c =
    let outer = g.O.ErasedCode.erased_reading_is in
    let reading = read_marking outer c.args.word.now c.args.each (length c.args.ranks.now) (slice_index c.args.ranks.now) in
    let inside : c.loop-pairs.pairs ≤ c.args.most = omega arith in
    let read : Some c.read_with_erasures.new.word ≡ reading c.loop-pairs.pairs
    = c.in-Found.ensures.value ∙ ap₂ (λ (xs : List Sym) (ms : List Bool). outer (without_erased xs ms)) c.loop-pairs.invariant.same c.mark.ensures in
    found_word c.args.word.now c.read_with_erasures.new.word _
    (first_at c.loop-pairs.pairs c.args.most reading c.read_with_erasures.new.word inside c.loop-pairs.invariant.none read)

pub returns-in-Found-clause-found : goal.returns-in-Found-clause-found
unfolding word_read read_marking
returns-in-Found-clause-found g c =
    let outer = g.O.ErasedCode.erased_reading_is in
    let reading = read_marking outer c.args.word.now c.args.each (length c.args.ranks.now) (slice_index c.args.ranks.now) in
    let inside : c.loop-pairs.pairs ≤ c.args.most = omega arith in
    let read : Some c.read_with_erasures.new.word ≡ reading c.loop-pairs.pairs
    = c.in-Found.ensures.value ∙ ap₂ (λ (xs : List Sym) (ms : List Bool). outer (without_erased xs ms)) c.loop-pairs.invariant.same c.mark.ensures in
    found_true c.read_with_erasures.new.word _
    (first_at c.loop-pairs.pairs c.args.most reading c.read_with_erasures.new.word inside c.loop-pairs.invariant.none read)

pub loop-pairs-preserved : goal.loop-pairs-preserved
unfolding word_read read_marking IsErasedReading
loop-pairs-preserved g c =
    let outer = g.O.ErasedCode.erased_reading_is in
    let pairs = c.loop-pairs.pairs in
    let reading = read_marking outer c.args.word.now c.args.each (length c.args.ranks.now) (slice_index c.args.ranks.now) in
    let read : None ≡ reading pairs
    = c.in-Beyond.ensures.value ∙ ap₂ (λ (xs : List Sym) (ms : List Bool). outer (without_erased xs ms)) c.loop-pairs.invariant.same c.mark.ensures in
    record {
      same = c.in-Beyond.ensures.reading.unchanged ∙ c.loop-pairs.invariant.same;
      long = c.mark.auto.erased ∙ c.loop-pairs.invariant.long;
      none = ap (λ n. first_found n reading) (add-one pairs) ∙ first_next pairs reading c.loop-pairs.invariant.none ∙ sym read;
    }
