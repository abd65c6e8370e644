use Rattle.std.proofs.Common.{◌^◌, ◌<◌, Some, None, refl, sym, subst}
use Rattle.p25_code.proofs.NumberCodeLaws.{read_by_number, changed_bits}
use Rattle.p25_bch_nid.specs.{Bch63.{IsBch63}, Bch63Readings.{bch63_reading_of, bch63_reads_as}}
use Rattle.p25_bch_nid.proofs.bch63.Bch63BlockCode.read.Goals as goal

pub returns-in-Some : goal.returns-in-Some
returns-in-Some c =
    let received_here = c.number_of-received in
    let sent = c.in-Some.sent in
    read_by_number IsBch63 11 63 bch63_reading_of bch63_reads_as c.args.word.now c.put_number.new.bits received_here.result (Some sent) _
    c.requires.word received_here.ensures.value c.in-Some.ensures.reading
    (changed_bits received_here.result sent c.args.word.now c.put_number.new.bits received_here.ensures.value
    (rw c.requires.word c.in-Some.ensures.fits) c.put_number.ensures)

pub returns-in-None : goal.returns-in-None
returns-in-None c =
    read_by_number IsBch63 11 63 bch63_reading_of bch63_reads_as c.args.word.now c.args.word.now c.number_of-received.result None _
    c.requires.word c.number_of-received.ensures.value c.in-None.ensures.reading (refl, refl)
