use Rattle.std.proofs.Common.{◌^◌, ◌<◌, sym}
use Rattle.p25_bits.proofs.DistanceLaws.{distance_of-bits_of}
use Rattle.p25_coded_fields.proofs.{ReadLaws.{received_bits}, SymbolsLaws.{symbols_info}}
use Rattle.p25_coded_fields.proofs.fixes.inner_fixes.Goals as goal

pub returns : goal.returns
returns g c =
    let received_here = c.field-received in
    let b = g.I.BlockCode in
    rw (
      ← received_bits b.N c.args.at received_here.result c.args.bare.now received_here.ensures.value c.N.ensures c.requires.there,
      ← symbols_info b.K c.symbols_number.result c.args.symbols.now c.symbols_number.ensures.value c.requires.sixes,
      ← c.encode_number-sent.ensures.encoding,
    ) (sym (distance_of-bits_of b.N received_here.result c.encode_number-sent.result (rw c.N.ensures at received_here.ensures.fits) c.encode_number-sent.ensures.fits))
