use Rattle.std.proofs.Common.{◌≡◌, ◌+◌, ◌-◌, ◌*◌, ◌≤◌, ◌++◌, cond, drop, false, length}
use Rattle.std.specs.Option.{is_some}
use Rattle.p25_follow.specs.{Chains.{chain_by}, Expected.{names_of}, Following.{left_of}}
use Rattle.p25_follow.proofs.chain.put_units.Given as goal

abbrev pub invariant-loop-before : goal.invariant-loop-before
invariant-loop-before l = record {
  there : l.at ≤ length l.bits;
  written : l.out ++ chain_by l.whole (names_of l.before) (drop l.at l.bits) (names_of l.end) ≡ l.initial.out ++ chain_by l.whole (names_of l.initial.before) l.bits (names_of l.end);
  left : l.whole ≡ false → left_of (names_of l.before) (drop l.at l.bits) ≡ left_of (names_of l.initial.before) l.bits;
  filled : length l.out ≡ length l.initial.out + l.at;
}

abbrev pub decreases-loop-before : goal.decreases-loop-before
decreases-loop-before l = 2 * (length l.bits - l.at) + cond (is_some l.before) 1 0
