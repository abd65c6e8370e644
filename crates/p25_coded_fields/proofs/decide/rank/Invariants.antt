use Rattle.std.proofs.Common.{◌≡◌, ◌≤◌, slice_index}
use Rattle.p25_coded_fields.specs.Decided.{rank_of, stands_before}
use Rattle.p25_coded_fields.proofs.decide.rank.Given as goal

abbrev pub invariant-loop-j : goal.invariant-loop-j
invariant-loop-j l = record {
  value : l.before ≡ rank_of l.j (stands_before (slice_index l.leasts) (slice_index l.seconds)) l.i;
  low : l.before ≤ l.j;
}
