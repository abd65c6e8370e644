use Rattle.std.proofs.Common.{◌≡◌, length}
use Rattle.p25_reed_solomon.specs.Generator.{IsGenerator}
use Rattle.p25_reed_solomon.proofs.encoder.generator_of.Given as goal

abbrev pub invariant-loop-i : goal.invariant-loop-i
invariant-loop-i l = (length l.generator ≡ 64) × IsGenerator l.i l.generator
