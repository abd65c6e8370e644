use Rattle.std.proofs.Common.{◌≡◌, ◌/◌, ◌%◌, ◌^◌, Some, None, ap, ap₂, sym, ◌∙◌, arith}
use Rattle.p25_bits.specs.Bits.{bits_of}
use Rattle.p25_bch_nid.specs.NidReading.{identifier_of_word}
use Rattle.p25_bch_nid.proofs.ReadingLaws.{code_reading, identifier_made, wrong_in, wrong-le}
use Rattle.p25_bch_nid.proofs.reading.read_nid_counted.Goals as goal

pub returns : goal.returns
returns c =
    let sent_is = c.in_ok-sent.ensures in
    let nid = c.from.result in
    let sent = c.in_ok-sent.sent in
    let fits = sent_is.fits in
    let begins = ap₂ (λ a b. (a, b)) (omega (arith, c.from.ensures, fits)) (omega (arith, c.from.ensures, fits)) ∙ identifier_made sent fits in
    record {
      value = cc (begins, code_reading c.args.bits _ sent_is.reading);
      wrong = wrong_in c.args.bits sent _ (omega arith) fits sent_is.reading begins;
      most = wrong-le c.args.bits sent _ (omega arith) fits sent_is.reading begins;
    }

pub returns-in_err-sent-clause-value : goal.returns-in_err-sent-clause-value
returns-in_err-sent-clause-value c = rw c.from_residual.ensures (sym (code_reading c.args.bits None c.in_err-sent.ensures.reading))
