use Rattle.std.proofs.Common.{◌≡◌, ℕ, ◌-◌, ◌*◌, ◌≤◌, false, List, [], length}
use Rattle.p25_filter.specs.{Futures.{IsIdle}, Goings.{SoFar}, Traces.{Going}}
use Rattle.p25_filter.proofs.input.run_on.Given as goal

abbrev pub invariant-loop-count : goal.invariant-loop-count
invariant-loop-count g l =
    let future = g.W.Filter.future in
    record {
      octets : List ℕ;
      so_far : SoFar g.P.Port.moves l.initial.port (future l.initial.filter) Going octets [] [] (future l.filter) l.port;
      count : length octets ≡ l.taken;
      drained : g.W.Filter.IsDrained l.filter;
      idle : IsIdle false (future l.filter);
      going : g.W.Filter.is_finished l.filter ≡ false;
      size : g.W.Filter.size l.filter ≤ 8 * l.taken;
      empty : l.page ≡ [];
      few : l.taken ≤ 16777216;
      buffer : length l.buf ≡ 4096;
    }

abbrev pub decreases-loop-count : goal.decreases-loop-count
decreases-loop-count g l = 16777216 - l.taken
