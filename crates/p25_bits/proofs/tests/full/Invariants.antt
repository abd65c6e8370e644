use Rattle.std.proofs.Common.{◌≡◌, ◌*◌, length}
use Rattle.p25_bits.proofs.tests.full.Given as goal

abbrev pub invariant-loop-word : goal.invariant-loop-word
invariant-loop-word l = length l.bits ≡ 64 * l._word
