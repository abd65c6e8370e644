use Rattle.std.proofs.Common.{◌+◌, ◌*◌, ◌<◌, ◌≤◌, length}
use Rattle.p25_gf64.specs.Gf64.{gf64}
use Rattle.p25_algebra.specs.Series.{coefficient}
use Rattle.p25_poly.specs.Euclid.{IsPair}
use Rattle.p25_poly.proofs.key.key_solve.Given as goal

abbrev pub invariant-loop-back : goal.invariant-loop-back
invariant-loop-back l = record {
  pair : IsPair (length l.syndromes) (coefficient gf64 l.syndromes) l.front l.back;
  lower : length l.syndromes ≤ 2 * l.front.degree → l.back.degree ≤ l.front.degree;
  half : 2 * l.front.degree < length l.syndromes → length l.syndromes ≤ 2 * l.back.degree;
  front_inside : l.front.degree ≤ 22;
  back_inside : l.back.degree ≤ length l.syndromes;
}

abbrev pub decreases-loop-back : goal.decreases-loop-back
decreases-loop-back l = l.front.degree + l.back.degree
