use Rattle.std.proofs.Common.{◌≡◌, ◌*◌, ◌^◌, ◌≤◌}
use Rattle.p25_vectors.specs.Samples.{flips_of}
use Rattle.p25_vectors.proofs.report.sample.Given as goal

abbrev pub invariant-loop-given : goal.invariant-loop-given
invariant-loop-given l = record {
  sampler : l.sampler ≡ l._given;
  units : l.report.units ≡ l._given;
  flips : l.report.flips ≡ flips_of l._given;
  few : l.report.flips ≤ 2 ^ 32 * l._given;
  exact : l.report.exact ≡ l._given;
}
