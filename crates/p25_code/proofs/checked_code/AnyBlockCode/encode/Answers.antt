use Rattle.std.proofs.Common.{◌∙◌, ap₂}
use Rattle.p25_code.specs.Binary.{systematic}
use Rattle.p25_bits.specs.Bits.{bits_of}
use Rattle.p25_code.proofs.NumberCodeLaws.{encode_by_number}
use Rattle.p25_code.proofs.checked_code.AnyBlockCode.encode.Goals as goal

value_of : goal.returns-clause-value
value_of g c =
    let parameters = g.C.CheckedCode.PARAMETERS in
    encode_by_number (systematic g.C.CheckedCode.code.rows _) parameters.k parameters.n
    c.args.info.now c.put_number.new.bits c.number_of.result c.encode_number.result c.requires.info
    c.number_of.ensures.value c.encode_number.ensures.encoding (c.put_number.ensures ∙ ap₂ bits_of c.requires.word c.from.ensures)

pub returns-clause-value : goal.returns-clause-value
returns-clause-value g c = value_of g c

pub returns-clause-encoding : goal.returns-clause-encoding
returns-clause-encoding g c = rw (value_of g c) (g.C.CheckedCode.code.is.encodes c.args.info.now c.requires.info)
