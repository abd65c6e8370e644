use Rattle.std.proofs.Common.{◌≡◌, ℕ, ◌<◌, ◌≤◌, get_or, length, slice_index}
use Rattle.p25_coded_fields.specs.Decided.{rank_of, stands_before}
use Rattle.p25_coded_fields.proofs.decide.put_ranks.Given as goal

abbrev pub invariant-loop-i : goal.invariant-loop-i
invariant-loop-i l = record {
  each : (j : ℕ) → j < l.i → get_or l.ranks j 0 ≡ rank_of (length l.leasts) (stands_before (slice_index l.leasts) (slice_index l.seconds)) j;
  low : (j : ℕ) → j < l.i → get_or l.ranks j 0 ≤ 36;
}
