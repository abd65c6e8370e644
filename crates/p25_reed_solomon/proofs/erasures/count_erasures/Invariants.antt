use Rattle.std.proofs.Common.{◌≡◌, ◌≤◌}
use Rattle.p25_reed_solomon.specs.Errors.{erased_below}
use Rattle.p25_reed_solomon.proofs.erasures.count_erasures.Given as goal

abbrev pub invariant-loop-gone : goal.invariant-loop-gone
invariant-loop-gone l = (l.count ≡ erased_below l.erased l.gone-index) × (l.count ≤ l.gone-index)
