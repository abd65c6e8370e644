use Rattle.p25_bch_nid.proofs.CheckLaws.{entry-is}
use Rattle.p25_bch_nid.proofs.checks.remainder_at.Goals as goal

pub returns : goal.returns
returns c = entry-is c.args.place c.args.bits c.requires.place c.requires.bits
