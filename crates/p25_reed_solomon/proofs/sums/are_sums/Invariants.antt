use Rattle.std.proofs.Common.{◌≡◌, ℕ, ◌+◌, ◌<◌, get_or, length}
use Rattle.p25_gf64.specs.{Field.{power}, Gf64.{gf64}}
use Rattle.p25_algebra.specs.{Sums.{power_sum}, Series.{coefficient}}
use Rattle.p25_reed_solomon.specs.Errors.{element_of}
use Rattle.p25_reed_solomon.proofs.ListLaws.{IsMultipliedTo}
use Rattle.p25_reed_solomon.proofs.sums.are_sums.Given as goal

abbrev pub invariant-loop-syndrome : goal.invariant-loop-syndrome
invariant-loop-syndrome l = record {
  full : length l.terms ≡ 32;
  terms : (k : ℕ) → k < 32 → coefficient gf64 l.terms k ≡ gf64.mul (coefficient gf64 l.values k) (power gf64 (coefficient gf64 l.elements k) l.syndrome-index);
  sums : (r : ℕ) → r < l.syndrome-index → power_sum gf64 (length l.places) (λ c. element_of l.n (get_or l.places c 0)) (coefficient gf64 l.values) (r + 1) ≡ coefficient gf64 l.syndromes r;
}

abbrev pub invariant-loop-r : goal.invariant-loop-r
invariant-loop-r l = (length l.terms ≡ 32) × IsMultipliedTo l.r l.elements l.initial.terms l.terms l.sum
