use Rattle.p25_code.proofs.NumberCodeLaws.{read_by_number}
use Rattle.p25_code.proofs.checked_code.AnyBlockCode.read.Goals as goal

pub returns : goal.returns
returns g c =
    let parameters = g.C.CheckedCode.PARAMETERS in
    let code = g.C.CheckedCode.code in
    read_by_number code.IsWord _ parameters.n code.is.reading code.is.reads
    c.args.word.now c.put_reading.new.word c.number_of-received.result c.read_number.result c.put_reading.result
    c.requires.word c.number_of-received.ensures.value c.read_number.ensures.reading c.put_reading.ensures
