use Rattle.std.proofs.Common.{◌≡◌, ℕ, ◌<◌}
use Rattle.std.specs.Int.{bit_at}
use Rattle.p25_gf64.specs.{Symbol.{number}, Gf64.{gf64}}
use Rattle.p25_algebra.specs.Series.{coefficient, value_at}
use Rattle.p25_bch_nid.proofs.ZerosSteps.{point}
use Rattle.p25_bch_nid.proofs.zeros.zeros_of.Given as goal

abbrev pub invariant-loop-p : goal.invariant-loop-p
invariant-loop-p l = record {
  zeros : (e : ℕ) → e < 63 → bit_at l.some e ≡ 0 → (q : ℕ) → q < l.p → bit_at (number (value_at gf64 12 (coefficient gf64 l.polynomial) (point e))) q ≡ 0;
  all : (e : ℕ) → e < 63 → ((q : ℕ) → q < l.p → bit_at (number (value_at gf64 12 (coefficient gf64 l.polynomial) (point e))) q ≡ 0) → bit_at l.some e ≡ 0;
}

abbrev pub invariant-loop-k : goal.invariant-loop-k
invariant-loop-k l = (e : ℕ) → e < 63 → bit_at l.sum e ≡ bit_at (number (value_at gf64 l.k (coefficient gf64 l.polynomial) (point e))) l.p
