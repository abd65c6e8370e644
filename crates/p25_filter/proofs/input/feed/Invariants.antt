use Rattle.std.proofs.Common.{◌≡◌, ◌+◌, ◌-◌, ◌*◌, ◌≤◌, false, length, take}
use Rattle.p25_filter.specs.{Futures.{IsIdle}, Goings.{Goes}}
use Rattle.p25_filter.proofs.input.feed.Given as goal

abbrev pub invariant-loop-done : goal.invariant-loop-done
invariant-loop-done g l =
    let future = g.W.Filter.future in
    record {
      there : l.done ≤ length l.octets;
      goes : Goes g.P.Port.moves l.initial.port l.initial.page (future l.initial.filter) (take l.done l.octets) l.port l.page (future l.filter);
      drained : g.W.Filter.IsDrained l.filter;
      idle : IsIdle false (future l.filter);
      going : g.W.Filter.is_finished l.filter ≡ false;
      size : g.W.Filter.size l.filter ≤ g.W.Filter.size l.initial.filter + 8 * l.done;
    }

abbrev pub decreases-loop-done : goal.decreases-loop-done
decreases-loop-done g l = length l.octets - l.done
