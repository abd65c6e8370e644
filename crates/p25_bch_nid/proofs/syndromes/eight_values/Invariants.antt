use Rattle.std.proofs.Common.{◌≡◌, ℕ, ◌+◌, ◌*◌, ◌/◌, ◌%◌, ◌^◌, ◌<◌}
use Rattle.p25_gf64.specs.Symbol.{number}
use Rattle.p25_bch_nid.proofs.SyndromesSteps.{value}
use Rattle.p25_bch_nid.proofs.syndromes.eight_values.Given as goal

abbrev pub invariant-loop-place : goal.invariant-loop-place
invariant-loop-place l = (b : ℕ) → b < 8 → l.values / 2 ^ (8 * b) % 2 ^ 8 ≡ number (value (8 * l.part + b + 1) (l.word % 2 ^ (4 * l.place)))
