use Rattle.std.proofs.lemmas.Bool.{eqb-true, eq-eqb}
use Rattle.p25_bch_nid.proofs.CheckLaws.{clean-is, checks-are}
use Rattle.p25_bch_nid.proofs.checks.is_clean.Goals as goal

pub returns : goal.returns
returns c = (
  (λ same. clean-is c.args.word c.check_bits.result c.requires c.check_bits.ensures (eqb-true _ _ same)),
  (λ is. eq-eqb _ _ (checks-are c.args.word c.check_bits.result c.requires c.check_bits.ensures is)),
)
