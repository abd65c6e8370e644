use Rattle.std.proofs.Common.{Some, sym, ap, arith, ◌∙◌}
use Rattle.p25_text.specs.Values.{number_in}
use Rattle.p25_text.proofs.ValueLaws.{nac_in-text, nac_in-three, number_of_two}
use Rattle.p25_text.proofs.values.nac_value.Goals as goal

pub returns-clause-value : goal.returns-clause-value
returns-clause-value c =
    let octets = c.in_ok-octets.octets in
    ap Some c.from_be_bytes.ensures ∙ sym (number_of_two octets c.in_ok-octets.ensures.len) ∙ ap number_in c.in_ok-octets.ensures.value
    ∙ sym (nac_in-three c.args.word.now (omega arith))

pub returns-clause-fits : goal.returns-clause-fits
returns-clause-fits c = (nac_in-text c.args.word.now c.from_be_bytes.result (sym (returns-clause-value c))).1
