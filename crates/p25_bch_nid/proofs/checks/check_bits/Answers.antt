use Rattle.p25_bch_nid.proofs.CheckLaws.{parts-is}
use Rattle.p25_bch_nid.proofs.checks.check_bits.Goals as goal

pub returns : goal.returns
returns c = parts-is c.args.information _ _ _ _ c.requires c.remainder_at.ensures c.remainder_at-2.ensures c.remainder_at-3.ensures c.remainder_at-4.ensures
