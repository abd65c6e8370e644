use Rattle.std.proofs.Common.{◌≡◌, ◌*◌, ◌^◌, ◌≤◌}
use Rattle.p25_suite.proofs.tests.samples.flips_read.Given as goal

abbrev pub invariant-loop-given : goal.invariant-loop-given
invariant-loop-given l = record { sampler : l.sampler ≡ l._given; few : l.flips ≤ 2 ^ 32 * l._given }
