use Rattle.std.proofs.Common.{subst, sym, false, refl}
use Rattle.p25_filter.specs.{Futures.{IsIdle}, LineFilters.{LineFiltering, first_line, line_future}}
use Rattle.p25_filter.proofs.LineFiltersLaws.{step-idle}
use Rattle.p25_tool.proofs.command_run.run_lines.Goals as goal

pub run_on-requires-clause-idle : goal.run_on-requires-clause-idle
run_on-requires-clause-idle g c =
    subst (λ (w : LineFiltering g.row.M.Denot). IsIdle false (line_future g.M.LineMachine.rules w)) (sym c.new-lines.ensures)
    (step-idle g.M.LineMachine.rules (first_line c.args.machine) refl refl)
