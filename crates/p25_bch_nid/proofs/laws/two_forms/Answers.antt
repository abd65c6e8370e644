use Rattle.p25_bch_nid.specs.Bch63FormLaws.{to_divisible, from_divisible}
use Rattle.p25_bch_nid.proofs.laws.two_forms.Goals as goal

pub returns : goal.returns
returns c = λ word. (λ is. (is.long, to_divisible word is), λ is. from_divisible word is.0 is.1)
