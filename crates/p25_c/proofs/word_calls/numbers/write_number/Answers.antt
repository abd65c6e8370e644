use Rattle.std.proofs.Common.{◌^◌, ◌<◌, rules, arith}
use Rattle.p25_bits.specs.Bits.{bits_of}
use Rattle.p25_bits.proofs.BitsLaws.{length-bits_of}
use Rattle.p25_c.proofs.word_calls.numbers.write_number.Goals as goal

pub returns : goal.returns
returns g c =
    let k = g.C.BlockCode.K in
    let info = c.args.info in
    let small : info < 2 ^ k = search rules in
    record {
      written = λ below. rw c.encode_number.ensures.encoding (g.met.C.NumberCode.encodes c.requires (bits_of k info) (length-bits_of k info));
      fits = λ below. c.encode_number.ensures.fits;
      refused = λ large. absurd (omega arith);
    }
