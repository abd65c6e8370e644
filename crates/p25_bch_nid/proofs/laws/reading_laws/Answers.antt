use Rattle.std.proofs.Common.{sym, subst}
use Rattle.p25_bch_nid.specs.NidReading.{IsNidReading}
use Rattle.p25_bch_nid.proofs.{NidReadingLaws.{IsNidReading-nid_reading_of, IsNidReading-unique, nid_reading_of-word, nid_reading_of-first}, NidWordLaws.{nid_reading_of-nid_word, nid_reading_of-near}}
use Rattle.p25_bch_nid.proofs.laws.reading_laws.Goals as goal

pub returns : goal.returns
returns c = record {
  only = λ bits answer long. (IsNidReading-unique bits answer long, λ same. subst (IsNidReading bits) (sym same) (IsNidReading-nid_reading_of bits));
  word = nid_reading_of-word;
  near = nid_reading_of-near;
  sent = nid_reading_of-nid_word;
  first = nid_reading_of-first;
}
