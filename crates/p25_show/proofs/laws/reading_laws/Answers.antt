use Rattle.p25_show.proofs.{NeedsLaws.{need-at}, ReadingsLaws.{checks-made, codes-read, identifier-read, unit-read}}
use Rattle.p25_show.proofs.laws.reading_laws.Goals as goal

pub returns : goal.returns
returns c = record {
  needs = need-at;
  identifier = identifier-read;
  units = unit-read;
  codes = codes-read;
  blocks = record { half = c.half_blocks.ensures.read; three_quarter = c.three_quarter_blocks.ensures.read };
  checks = checks-made;
}
