use Rattle.std.proofs.Common.{◌∙◌}
use Rattle.p25_golay.proofs.Golay18Steps.{checks_short}
use Rattle.p25_golay.proofs.golay18.Golay18CheckedCode.check_bits.Goals as goal

pub returns : goal.returns
returns c = c.check_bits.ensures ∙ checks_short c.args.info c.requires
