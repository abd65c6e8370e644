use Rattle.p25_reed_solomon.specs.Errors.{AreZeros}
use Rattle.p25_reed_solomon.proofs.zeros.zeros.Given as goal

abbrev pub invariant-loop-j : goal.invariant-loop-j
invariant-loop-j l = AreZeros l.n l.polynomial l.j l.places.items
