use Rattle.std.proofs.{Common.{refl, sym}, lemmas.Nat.{xor_lt}}
use Rattle.p25_bits.specs.Bits.{bits_of}
use Rattle.p25_bits.proofs.BitsLaws.{length-bits_of}
use Rattle.p25_gf64.specs.Gf64.{gf64}
use Rattle.p25_algebra.specs.Series.{coefficient}
use Rattle.p25_bch_nid.specs.Bch63.{symbols_of}
use Rattle.p25_bch_nid.proofs.CorrectionSteps.{errors_of_bits, corrected_number, number_back}
use Rattle.p25_bch_nid.proofs.correction.corrected.Goals as goal

pub returns-clause-sent : goal.returns-clause-sent
returns-clause-sent c =
    let received_given = c.args.received in
    λ sent of_code near.
    let received = bits_of 63 received_given in
    let long = length-bits_of 63 received_given in
    let is = sym (number_back received_given c.requires) in
    corrected_number received sent _ received_given c.zeros_of.result long is refl of_code
    (λ j low.
    let here = c.zeros_of.ensures.zeros j low in
    let exactly = c.wrong_locator-locator.ensures.zeros _ (errors_of_bits received sent received_given c.syndromes_of.result long is c.syndromes_of.ensures.values of_code near) j low in
    ((λ is. exactly.0 (here.0 is)), (λ other. here.1 (exactly.1 other))))

pub returns-clause-fits : goal.returns-clause-fits
returns-clause-fits c = xor_lt 63 c.args.received c.zeros_of.result c.requires c.zeros_of.ensures.below
