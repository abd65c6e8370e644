use Rattle.std.proofs.Common.{◌≡◌, ◌*◌, ◌-◌, ◌/◌, ◌^◌, length, refl}
use Rattle.p25_bits.specs.Bits.{bits_of, part}
use Rattle.p25_link.specs.Symbols.{symbols_in}
use Rattle.p25_coded_fields.proofs.ReadLaws.{received_bits, received_reading, inner_found, inner_beyond}
use Rattle.p25_coded_fields.proofs.read.read_inner.Goals as goal

pub returns-in-Some : goal.returns-in-Some
returns-in-Some g c =
    let b = g.I.BlockCode in
    let bits = part c.args.at b.N c.args.bare.now in
    inner_found b.N b.K _ c.in-Some.sent (b.reading_is bits) c.put_symbols.new.symbols c.fill.new.self c.requires.sixes (g.met.I.BlockCode.begins c.requires.code)
    (received_reading b.N c.field-received.result bits b.reading_is c.in-Some.is c.read_number.ensures.reading
    (received_bits b.N c.args.at c.field-received.result c.args.bare.now c.field-received.ensures.value c.N.ensures c.requires.there)) (rw (c.from.ensures, c.N-in-Some.ensures, c.K.ensures) at c.put_symbols.ensures)
    (rw c.requires.same at (c.fill.ensures.after (λ y e. e)))

pub returns-in-None : goal.returns-in-None
returns-in-None g c =
    let b = g.I.BlockCode in
    let bits = part c.args.at b.N c.args.bare.now in
    inner_beyond _ (b.reading_is bits) c.args.symbols.now c.fill-in-None.new.self refl
    (received_reading b.N c.field-received.result bits b.reading_is c.in-None.is c.read_number.ensures.reading
    (received_bits b.N c.args.at c.field-received.result c.args.bare.now c.field-received.ensures.value c.N.ensures c.requires.there))
    (rw c.requires.same at (c.fill-in-None.ensures.after (λ y e. e)))
