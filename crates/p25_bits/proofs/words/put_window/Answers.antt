use Rattle.std.proofs.Common.{arith}
use Rattle.p25_bits.proofs.{BitsLaws.{length-bits_of}, WordsLaws.{ending_is, take_put}}
use Rattle.p25_bits.proofs.words.put_window.Goals as goal

pub returns : goal.returns
returns c =
    take_put c.args.words.now c.args.at c.beginning.result _ _ c.requires (length-bits_of 64 c.args.word) c.beginning.ensures
    (ending_is c.args.word _ (omega arith))
