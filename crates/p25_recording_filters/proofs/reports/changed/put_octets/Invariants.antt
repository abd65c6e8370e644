use Rattle.std.proofs.Common.{◌≡◌, ◌+◌, ◌*◌, ◌++◌, length, drop}
use Rattle.p25_bits.specs.Numbers.{octets_from}
use Rattle.p25_recording_filters.proofs.reports.changed.put_octets.Given as goal

abbrev pub invariant-loop-k : goal.invariant-loop-k
invariant-loop-k l = record { list : l.out ≡ l.fn.out ++ octets_from (8 * l.k) (drop l.at l.bits); len : length l.out ≡ length l.fn.out + 8 * l.k }

abbrev pub invariant-loop-j : goal.invariant-loop-j
invariant-loop-j l = record { list : l.out ≡ l.fn.out ++ octets_from l.j (drop l.at l.bits); len : length l.out ≡ length l.fn.out + l.j }
