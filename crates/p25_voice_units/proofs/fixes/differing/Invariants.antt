use Rattle.std.proofs.Common.{◌≡◌, take, sum_by}
use Rattle.p25_voice_units.proofs.FixesLaws.{differ_at}
use Rattle.p25_voice_units.proofs.fixes.differing.Given as goal

abbrev pub invariant-loop-at : goal.invariant-loop-at
invariant-loop-at l = l.wrong ≡ sum_by (differ_at l.width l.received l.image) (take l.at-index l.places)
