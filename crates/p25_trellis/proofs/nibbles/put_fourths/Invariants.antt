use Rattle.std.proofs.Common.{◌≡◌, ◌≢◌, ℕ, ◌-◌, ◌*◌, ◌/◌, ◌%◌, ◌^◌, ◌<◌, length, get_or}
use Rattle.p25_trellis.specs.Interleave.{each_fourth}
use Rattle.p25_trellis.proofs.nibbles.put_fourths.Given as goal

abbrev pub invariant-loop-k : goal.invariant-loop-k
invariant-loop-k l = record {
  put : (k : ℕ) → k < l.k → get_or (each_fourth l.from l.nibbles) k 0 ≡ l.number / 2 ^ (4 * (l.count - 1 - k)) % 2 ^ 4;
  long : length l.nibbles ≡ 49;
  others : (other : ℕ) → other < 4 → other ≢ l.from → each_fourth other l.nibbles ≡ each_fourth other l.initial.nibbles;
}
