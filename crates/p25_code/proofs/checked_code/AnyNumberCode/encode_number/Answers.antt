use Rattle.std.proofs.Common.{refl, ◌∙◌}
use Rattle.p25_code.proofs.NumberCodeLaws.{encodes_number, word_fits}
use Rattle.p25_code.proofs.checked_code.AnyNumberCode.encode_number.Goals as goal

pub returns-clause-encoding : goal.returns-clause-encoding
returns-clause-encoding g c =
    encodes_number g.C.CheckedCode.code c.args.info c.from.result _ _ c.requires.info
    (c.from.ensures ∙ c.check_bits.ensures) (rw c.PARAMETERS-n.ensures) refl

pub returns-clause-fits : goal.returns-clause-fits
returns-clause-fits g c =
    word_fits g.C.CheckedCode.code c.args.info c.from.result _ _ c.requires.info
    (c.from.ensures ∙ c.check_bits.ensures) (rw c.PARAMETERS-n.ensures) refl
