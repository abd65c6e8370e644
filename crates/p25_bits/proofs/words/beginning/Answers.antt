use Rattle.p25_bits.proofs.WordsLaws.{beginning_is}
use Rattle.p25_bits.proofs.words.beginning.Goals as goal

pub returns : goal.returns
returns c = beginning_is c.args.word c.args.at c.args.next c.requires c.ranges.word.fits c.ranges.next.fits
