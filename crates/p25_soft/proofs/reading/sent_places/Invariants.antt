use Rattle.std.proofs.Common.{◌≡◌, ℕ, ◌<◌, get_or, length}
use Rattle.p25_soft.proofs.reading.sent_places.Given as goal

abbrev pub invariant-loop-place : goal.invariant-loop-place
invariant-loop-place l = record { long : length l.in_order ≡ 49; so_far : (k : ℕ) → k < l.place → get_or l.in_order k 0 ≡ k }
