use Rattle.std.proofs.{Common.{◌≡◌, take, length, arith}, lemmas.List.{length-take-le}}
use Rattle.std.specs.Bool.{beq}
use Rattle.p25_bits.specs.Bits.{bits_of}
use Rattle.p25_bits.proofs.{BitsLaws.{length-bits_of}, DistanceLaws.{distance_by-le}}
use Rattle.p25_bch_nid.specs.NidWord.{nid_word}
use Rattle.p25_bch_nid.proofs.{NidWordLaws.{nid_reading_of-near}, SentSteps.{weight-distance}}
use Rattle.p25_bch_nid.proofs.sent.nid_distance.Goals as goal

is_distance : goal.returns-clause-distance
is_distance c = weight-distance c.args.bits c.nid_bits.result _ (omega arith) c.nid_bits.ensures.sent.fits c.nid_bits.ensures.list

pub returns-clause-distance : goal.returns-clause-distance
returns-clause-distance c = is_distance c

pub returns-clause-most : goal.returns-clause-most
returns-clause-most c =
    let long : length (take 63 (bits_of 64 c.args.bits)) ≡ 63 = length-take-le 63 _ (omega (arith, length-bits_of 64)) in
    omega (arith, is_distance c, distance_by-le)

pub returns-clause-read : goal.returns-clause-read
returns-clause-read c = λ read. omega (arith, is_distance c, nid_reading_of-near)
