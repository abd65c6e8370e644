use Rattle.p25_golay.proofs.Golay24Tables.{checks_are}
use Rattle.p25_golay.proofs.golay24.Golay24CheckedCode.check_bits.Goals as goal

pub returns : goal.returns
returns c = checks_are c.args.info c.requires
