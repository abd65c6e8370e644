use Rattle.std.proofs.Common.{◌≡◌, ◌+◌, ◌*◌, ◌++◌, ◌≤◌, length}
use Rattle.p25_bits.specs.Numbers.{joined_below}
use Rattle.p25_soft.specs.Softened.{softened_block, blocks_replaced}
use Rattle.p25_soft.proofs.softening.append_blocks.Given as goal

abbrev pub invariant-loop-j : goal.invariant-loop-j
invariant-loop-j l = record {
  list : l.out ≡ l.initial.out ++ joined_below l.j (softened_block l.fields l.levels l.bare);
  len : length l.out ≡ length l.initial.out + 196 * l.j;
  count : l.count ≡ blocks_replaced l.fields l.j;
  few : l.count ≤ l.j;
}
