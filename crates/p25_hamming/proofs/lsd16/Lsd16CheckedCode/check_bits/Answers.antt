use Rattle.p25_hamming.proofs.Lsd16Tables.{checks_are}
use Rattle.p25_hamming.proofs.lsd16.Lsd16CheckedCode.check_bits.Goals as goal

pub returns : goal.returns
returns c = checks_are c.args.info c.requires
