use Rattle.p25_unit_front.proofs.FrontLaws.{IsFront-iff, front_of-bare_of, front_fixes_of-none}
use Rattle.p25_unit_front.proofs.laws.one_front.Goals as goal

pub returns : goal.returns
returns c = record {
  form = IsFront-iff;
  bare = front_of-bare_of;
  none = front_fixes_of-none;
}
