use Rattle.std.proofs.Common.{◌≡◌, ◌+◌, ◌*◌, ℕ, ◌<◌, get_or, length}
use Rattle.std.specs.Prelude.{pos}
use Rattle.p25_soft.specs.Softened.{sent_dibit}
use Rattle.p25_soft.proofs.softening.levels_of.Given as goal

abbrev pub invariant-loop-i : goal.invariant-loop-i
invariant-loop-i l = record {
  long : length l.block ≡ 98;
  so_far : (k : ℕ) → k < l.i → get_or l.block k (pos 0) ≡ get_or l.levels (sent_dibit (154 + 98 * l.j + k)) (pos 0);
}
