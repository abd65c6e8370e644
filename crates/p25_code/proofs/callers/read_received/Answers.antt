use Rattle.p25_code.specs.Readings.{word_read}
use Rattle.p25_code.proofs.ReadingLaws.{IsBlockCode, reading_sent, reading_fixes, one_reading, word_read_as}
use Rattle.p25_code.proofs.callers.read_received.Goals as goal

pub returns : goal.returns
returns g c =
    let read = c.read in
    let code = c.requires.code in
    let word = read.new.word in
    let m = g.met.C.BlockCode in
    let b = g.C.BlockCode in
    let laws : IsBlockCode g.C.Letter.PartialEq.eq b.IsWord b.N b.K b.radius_is b.distance_is = record {
      compares = g.met.C.Letter.Eq.laws;
      alike = m.same_letter;
      long = m.length_of_word code;
      one_word = m.one_word code;
      far_apart = m.far_apart code;
      close = m.within code;
      begins = m.begins code;
    } in
    let received = c.args.word.now in
    record {
      reading = read.ensures;
      value = one_reading laws received (word_read read.result word) _ c.requires.word
          (word_read_as laws received word read.result read.ensures) (m.reads_as code received);
      sent = λ sent is near. reading_sent laws received word sent read.result c.requires.word read.ensures is near;
      fixes = λ sent is near. reading_fixes laws received word sent read.result c.requires.word read.ensures is near;
    }
