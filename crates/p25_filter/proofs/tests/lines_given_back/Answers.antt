use Rattle.std.proofs.Common.{false, refl, subst, sym}
use Rattle.p25_filter.specs.{Echoes.{echo_rules}, Futures.{IsIdle}, LineFilters.{LineFiltering, first_line, line_future}}
use Rattle.p25_filter.proofs.LineFiltersLaws.{step-idle}
use Rattle.p25_filter.proofs.tests.lines_given_back.Goals as goal

pub run_on-end-requires-clause-idle : goal.run_on-end-requires-clause-idle
run_on-end-requires-clause-idle g c =
    subst (λ (w : LineFiltering _). IsIdle false (line_future echo_rules w)) (sym c.new-lines.ensures) (step-idle echo_rules (first_line _) refl refl)
