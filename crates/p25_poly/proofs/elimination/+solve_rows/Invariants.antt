use Rattle.std.proofs.Common.{◌≡◌, ℕ, ◌<◌, ◌≤◌, length}
use Rattle.p25_poly.specs.LinearSystem.{row_of, IsCleared}
use Rattle.p25_poly.proofs.elimination.+solve_rows.Given as goal

abbrev pub invariant-loop-i : goal.invariant-loop-i
invariant-loop-i l = record {
  cleared : (k : ℕ) → k < l.i → IsCleared l.column l.front (row_of l.initial.rest k) (row_of l.rest k);
  others : (k : ℕ) → l.i ≤ k → row_of l.rest k ≡ row_of l.initial.rest k;
}

abbrev pub decreases-solve_rows : goal.decreases-solve_rows
decreases-solve_rows l = length l.rows.now
