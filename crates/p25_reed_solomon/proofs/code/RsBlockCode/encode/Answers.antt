use Rattle.p25_reed_solomon.proofs.EncodingLaws.{rs_word-only}
use Rattle.p25_reed_solomon.proofs.code.RsBlockCode.encode.Goals as goal

pub returns-clause-value : goal.returns-clause-value
returns-clause-value g c = rs_word-only g.row.N g.row.K c.args.info.now c.encode.new.word c.requires.code c.requires.info (record {
  word_of_set = rw (c.requires.word, c.requires.info) at c.encode.ensures.word;
  begins = rw c.requires.info at c.encode.ensures.begins;
})
