use Rattle.std.proofs.Common.{Bool, List, ◌++◌, ap, ◌∙◌}
use Rattle.p25_bits.specs.Bits.{bits_of}
use Rattle.p25_stream.proofs.ArrivingLaws.{bits_of-first}
use Rattle.p25_stream.proofs.arriving.put_some.Goals as goal

pub returns-then-octets-lt8-clause-list : goal.returns-then-octets-lt8-clause-list
returns-then-octets-lt8-clause-list c =
    c.put_field.ensures.list
    ∙ ap (λ (zs : List Bool). c.args.held.now ++ zs) (ap (bits_of 8) c.from.ensures ∙ bits_of-first c.args.octets.now c.requires.some)
