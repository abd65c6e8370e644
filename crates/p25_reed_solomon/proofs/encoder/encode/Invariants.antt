use Rattle.std.proofs.Common.{◌≡◌, ◌-◌, length}
use Rattle.p25_reed_solomon.proofs.EncoderSteps.{IsDividedTo}
use Rattle.p25_reed_solomon.proofs.encoder.encode.Given as goal

abbrev pub invariant-loop-i : goal.invariant-loop-i
invariant-loop-i l = IsDividedTo l.i l.n (l.n - l.k) l.initial.divided l.divided × (length l.divided ≡ 95)
