use Rattle.std.proofs.Common.{refl}
use Rattle.p25_crc.proofs.RemaindersLaws.{word_taken}
use Rattle.p25_crc.proofs.register.take_word.Goals as goal

pub returns : goal.returns
returns c = λ divisor before are is. word_taken divisor c.args.remainders.now are before c.args.register c.args.word c.ranges.register.fits c.ranges.word.fits is _ refl
