use Rattle.std.proofs.Common.{◌≡◌, ℕ, ◌<◌, ◌≤◌, length}
use Rattle.p25_gf64.specs.Gf64.{gf64}
use Rattle.p25_algebra.specs.Series.{coefficient}
use Rattle.p25_reed_solomon.proofs.reader.read_erased.Given as goal

-- so far the errors are added, and after them the word is unchanged
abbrev pub invariant-loop-j : goal.invariant-loop-j
invariant-loop-j l = record {
  added : (j : ℕ) → j < l.j → coefficient gf64 l.word j ≡ gf64.add (coefficient gf64 l.initial.word j) (coefficient gf64 l.errors j);
  behind : (j : ℕ) → l.j ≤ j → coefficient gf64 l.word j ≡ coefficient gf64 l.initial.word j;
  long : length l.word ≡ length l.initial.word;
}
