use Rattle.std.proofs.Common.{ap, take, ◌∙◌}
use Rattle.p25_filter.proofs.LineFiltersLaws.{piece-is}
use Rattle.p25_filter.proofs.line_filter.LineFilter.give.Goals as goal

pub returns-clause-out : goal.returns-clause-out
returns-clause-out g c =
    (rw c.clear.ensures at c.put.ensures.list)
    ∙ piece-is c.rest-rest.result.now 8192 c.min-count.result c.min-count.ensures
    ∙ ap (take 8192) c.rest-rest.ensures.list
