use Rattle.std.proofs.Common.{length, arith}
use Rattle.p25_gf64.specs.Gf64.{gf64}
use Rattle.p25_algebra.specs.Series.{coefficient}
use Rattle.p25_poly.proofs.SystemSteps.{solution_met}
use Rattle.p25_poly.proofs.systems.solve.Goals as goal

pub returns-clause-complete : goal.returns-clause-complete
returns-clause-complete c = λ x solution.
    c.solve_rows.ensures.complete x
    (solution_met c.args.matrix.now (coefficient gf64 c.args.right.now) c.with_right-rows.result (length c.fill.new.self) x c.with_right-rows.ensures.system (omega arith) solution)
