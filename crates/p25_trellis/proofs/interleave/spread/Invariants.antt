use Rattle.std.proofs.Common.{◌≡◌, take, length}
use Rattle.p25_trellis.specs.Interleave.{interleaved}
use Rattle.p25_trellis.proofs.interleave.spread.Given as goal

abbrev pub invariant-loop-place : goal.invariant-loop-place
invariant-loop-place l = (take l.place l.sent ≡ take l.place (interleaved l.nibbles)) × (length l.sent ≡ 49)
