use Rattle.std.proofs.Common.{◌≡◌, ◌≤◌, Some, None, length, replicate, false, refl, ap, sym, ◌∙◌, arith}
use Rattle.p25_code.specs.{Erasures.{without_erased, IsErasedReading}, Readings.{word_read}}
use Rattle.p25_coded_fields.proofs.DecidedLaws.{unmarked, found_word, found_true, none_word, none_false}
use Rattle.p25_coded_fields.proofs.decide.read_whole.Goals as goal

pub returns-in-Found-clause-word : goal.returns-in-Found-clause-word
unfolding word_read
returns-in-Found-clause-word g c =
    let word = c.args.word.now in
    let marks = unmarked (length word) _ refl (omega arith) in
    found_word word c.read_with_erasures.new.word _ (c.in-Found.ensures.value ∙ ap (λ m. g.O.ErasedCode.erased_reading_is (without_erased word m)) marks)

pub returns-in-Found-clause-found : goal.returns-in-Found-clause-found
unfolding word_read
returns-in-Found-clause-found g c =
    let word = c.args.word.now in
    let marks = unmarked (length word) _ refl (omega arith) in
    found_true c.read_with_erasures.new.word _ (c.in-Found.ensures.value ∙ ap (λ m. g.O.ErasedCode.erased_reading_is (without_erased word m)) marks)

pub returns-in-Beyond-clause-word : goal.returns-in-Beyond-clause-word
unfolding word_read IsErasedReading
returns-in-Beyond-clause-word g c =
    let word = c.args.word.now in
    let marks = unmarked (length word) _ refl (omega arith) in
    none_word word c.read_with_erasures.new.word _ (c.in-Beyond.ensures.value ∙ ap (λ m. g.O.ErasedCode.erased_reading_is (without_erased word m)) marks)
    c.in-Beyond.ensures.reading.unchanged

pub returns-in-Beyond-clause-found : goal.returns-in-Beyond-clause-found
unfolding word_read
returns-in-Beyond-clause-found g c =
    let word = c.args.word.now in
    let marks = unmarked (length word) _ refl (omega arith) in
    none_false _ (c.in-Beyond.ensures.value ∙ ap (λ m. g.O.ErasedCode.erased_reading_is (without_erased word m)) marks)
