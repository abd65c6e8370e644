use Rattle.std.proofs.Common.{◌≡◌, ◌≤◌, []}
use Rattle.p25_filter.specs.Goings.{Goes}
use Rattle.p25_filter.proofs.input.drain.Given as goal

abbrev pub invariant-loop-page : goal.invariant-loop-page
invariant-loop-page g l =
    let future = g.W.Filter.future in
    record {
      goes : Goes g.P.Port.moves l.initial.port l.initial.page (future l.initial.filter) [] l.port l.page (future l.filter);
      same : g.W.Filter.is_finished l.filter ≡ g.W.Filter.is_finished l.initial.filter;
      size : g.W.Filter.size l.filter ≤ g.W.Filter.size l.initial.filter;
    }

abbrev pub decreases-loop-page : goal.decreases-loop-page
decreases-loop-page g l = g.W.Filter.pieces_left l.filter
