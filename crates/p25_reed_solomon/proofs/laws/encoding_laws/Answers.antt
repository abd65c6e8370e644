use Rattle.p25_reed_solomon.proofs.EncodingLaws.{IsEncoding-rs_word, rs_word-only}
use Rattle.p25_reed_solomon.proofs.laws.encoding_laws.Goals as goal

pub returns : goal.returns
returns c = record { word = IsEncoding-rs_word; only = rs_word-only }
