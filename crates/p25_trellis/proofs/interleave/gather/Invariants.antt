use Rattle.std.proofs.Common.{◌≡◌, ℕ, ◌<◌, get_or, length}
use Rattle.p25_trellis.specs.declared.interleave.TheConstants.{SENT_ORDER}
use Rattle.p25_trellis.proofs.interleave.gather.Given as goal

abbrev pub invariant-loop-place : goal.invariant-loop-place
invariant-loop-place l = ((k : ℕ) → k < l.place → get_or l.gathered (get_or SENT_ORDER k 0) 0 ≡ get_or l.nibbles k 0) × (length l.gathered ≡ 49)
