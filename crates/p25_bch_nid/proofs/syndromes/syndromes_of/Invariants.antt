use Rattle.std.proofs.Common.{◌≡◌, ℕ, ◌+◌, ◌*◌, ◌<◌, length}
use Rattle.p25_gf64.specs.Gf64.{gf64}
use Rattle.p25_algebra.specs.Series.{coefficient}
use Rattle.p25_bch_nid.proofs.SyndromesSteps.{value}
use Rattle.p25_bch_nid.proofs.syndromes.syndromes_of.Given as goal

abbrev pub invariant-loop-part : goal.invariant-loop-part
invariant-loop-part l = (length l.syndromes ≡ 32) × ((k : ℕ) → k < 8 * l.part → coefficient gf64 l.syndromes k ≡ value (k + 1) l.word)

abbrev pub invariant-loop-b : goal.invariant-loop-b
invariant-loop-b l = (length l.syndromes ≡ 32) × ((k : ℕ) → k < 8 * l.part + l.b → coefficient gf64 l.syndromes k ≡ value (k + 1) l.word)
