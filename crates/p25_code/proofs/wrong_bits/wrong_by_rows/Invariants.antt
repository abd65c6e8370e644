use Rattle.std.proofs.Common.{ℕ, ◌<◌, ◌≤◌, bit_xor, get_or}
use Rattle.std.specs.Int.RustNames.{count_ones}
use Rattle.p25_code.proofs.wrong_bits.wrong_by_rows.Given as goal

abbrev pub invariant-loop-i : goal.invariant-loop-i
invariant-loop-i l = (j : ℕ) → j < l.i → l.radius ≤ count_ones (bit_xor l.sum (get_or l.rows j 0))
