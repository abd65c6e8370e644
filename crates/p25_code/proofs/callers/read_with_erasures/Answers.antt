use Rattle.std.proofs.Common.{◌∙◌}
use Rattle.p25_code.specs.{Readings.{word_read}, Erasures.{without_erased}}
use Rattle.p25_code.proofs.{ReadingLaws.{IsBlockCode}, ErasedLaws.{length-without_erased, one_erased_reading, erased_reading_sent, erased_word_read_as, reading_without_erasures}}
use Rattle.p25_code.proofs.callers.read_with_erasures.Goals as goal

pub returns : goal.returns
returns g c =
    let code = c.requires.code in
    let ensures = c.read_erased.ensures in
    let erased = c.args.erased.now in
    let m = g.met.C.BlockCode in
    let b = g.C.BlockCode in
    let e = g.met.C.ErasedCode in
    let same = g.C.Letter.PartialEq.eq in
    let laws : IsBlockCode same b.IsWord b.N b.K b.radius_is b.distance_is = record {
      compares = g.met.C.Letter.Eq.laws;
      alike = m.same_letter;
      long = m.length_of_word code;
      one_word = m.one_word code;
      far_apart = m.far_apart code;
      close = m.within code;
      begins = m.begins code;
    } in
    let received = c.args.word.now in
    let list = without_erased received erased in
    let long = length-without_erased received erased ∙ c.requires.word in
    let close = e.erasures_within code in
    let word = c.read_erased.new.word in
    let reading = c.read_erased.result in
    record {
      reading = ensures;
      value =
          one_erased_reading laws close list (word_read reading word) (g.C.ErasedCode.erased_reading_is list) long
          (erased_word_read_as same b.IsWord _ list received word reading ensures)
          (e.erased_reads_as code list);
      sent = λ sent is near. erased_reading_sent laws close list received word sent reading long ensures is near;
      whole = λ twice none. reading_without_erasures same b.IsWord _ b.radius_is twice received word erased reading none ensures;
    }
