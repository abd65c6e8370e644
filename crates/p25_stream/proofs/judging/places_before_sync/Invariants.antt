use Rattle.std.proofs.Common.{◌≡◌, ℕ, ◌+◌, ◌<◌, false}
use Rattle.p25_bits.specs.Bits.{bits_of, part}
use Rattle.p25_status.specs.Sync.{has_sync}
use Rattle.p25_stream.proofs.judging.places_before_sync.Given as goal

abbrev pub invariant-loop-place : goal.invariant-loop-place
invariant-loop-place l = (place : ℕ) → place < l.place → has_sync (part place 48 (bits_of (47 + l.count) l.number)) ≡ false
