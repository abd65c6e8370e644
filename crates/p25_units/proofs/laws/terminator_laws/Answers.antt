use Rattle.p25_units.proofs.TerminatorsLaws.{IsSoundFrame-terminator, symbols-terminator, image_of-terminator, IsWithinRadius-terminator, HasTerminator-from, fixes_of-terminator}
use Rattle.p25_units.proofs.laws.terminator_laws.Goals as goal

pub returns : goal.returns
returns c = record {
  sound = λ nac statuses. (symbols-terminator nac statuses, IsSoundFrame-terminator nac statuses);
  sent = image_of-terminator;
  near = λ nac statuses bits two fits there. (
    IsWithinRadius-terminator nac statuses bits two,
    λ within. HasTerminator-from nac statuses bits (IsSoundFrame-terminator nac statuses two) fits there within.front,
  );
  fixes = fixes_of-terminator;
}
