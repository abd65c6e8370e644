use Rattle.std.proofs.Common.{drop, subst, ap, ◌∙◌, arith}
use Rattle.p25_filter.specs.{Futures.{IsClosed}, declared.line_filter.LinePhase.TheVariants.{Closing, ReadyLast}, LineFilters.{LineFiltering, is_ended_phase, line_future, line_filtering, texts_of}}
use Rattle.p25_filter.proofs.LineFiltersLaws.{step-finish, step-finish_none}
use Rattle.p25_filter.proofs.line_filter.LineFilterFilter.finish.Goals as goal

pub returns-then-len-eq0-clause-closed : goal.returns-then-len-eq0-clause-closed
returns-then-len-eq0-clause-closed g c =
    let rules = g.M.LineMachine.rules in
    let s = c.self.inside in
    let none = ap (λ (w : LineFiltering g.row.M.Denot). texts_of w.phase) c.self.view_is ∙ c.requires.drained.0 in
    let going = ap (λ (w : LineFiltering g.row.M.Denot). is_ended_phase w.phase) c.self.view_is ∙ c.requires.going in
    subst (λ (w : LineFiltering g.row.M.Denot). IsClosed (line_future rules w) (line_future rules (line_filtering s.machine s.line.items s.lines (drop s.given s.text) Closing))) c.self.view_is
    (step-finish_none rules s.machine s.line.items s.lines (drop s.given s.text) s.phase none going (omega (arith, c.len.ensures.value, c.if-len-eq0.true)))

pub returns-clause-closed : goal.returns-clause-closed
returns-clause-closed g c =
    let rules = g.M.LineMachine.rules in
    let s = c.self.inside in
    let none = ap (λ (w : LineFiltering g.row.M.Denot). texts_of w.phase) c.self.view_is ∙ c.requires.drained.0 in
    let going = ap (λ (w : LineFiltering g.row.M.Denot). is_ended_phase w.phase) c.self.view_is ∙ c.requires.going in
    subst (λ (w : LineFiltering g.row.M.Denot). IsClosed (line_future rules w) (line_future rules (line_filtering s.machine s.line.items s.lines (drop s.given s.text) ReadyLast))) c.self.view_is
    (step-finish rules s.machine s.line.items s.lines (drop s.given s.text) s.phase none going (omega (arith, c.len.ensures.value, c.if-len-eq0.false)))
