use Rattle.std.proofs.{Common.{◌<◌}, lemmas.List.Elements.{All-take}}
use Rattle.p25_bits.proofs.OctetNumbersLaws.{bits_of-eight}
use Rattle.p25_bits.proofs.bit_buf.BitBuf.put_eight.Goals as goal

pub returns-clause-list : goal.returns-clause-list
returns-clause-list c =
    let octets = c.args.octets.now in
    cc (c.put_field.ensures.list, bits_of-eight octets c.from_be_bytes-eight.result c.requires.there (All-take (λ octet. octet < 256) 8 octets c.octets_fit.ensures) c.from_be_bytes-eight.ensures)
