use Rattle.p25_hamming.proofs.Hamming10Tables.{checks_are}
use Rattle.p25_hamming.proofs.hamming10.Hamming10CheckedCode.check_bits.Goals as goal

pub returns : goal.returns
returns c = checks_are c.args.info c.requires
