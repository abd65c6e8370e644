use Rattle.std.proofs.Common.{List, ℕ, ap, sym, refl, ◌∙◌}
use Rattle.p25_filter.specs.{declared.line_filter.LinePhase.TheVariants.{Closed}, LineFilters.{LineFiltering, line_filtering}}
use Rattle.p25_filter.proofs.LineFiltersLaws.{step-close, step-last, step-line, step-none}
use Rattle.p25_filter.proofs.line_filter.LineFilter.ready.Goals as goal

pub returns-in-Reading-clause-piece : goal.returns-in-Reading-clause-piece
returns-in-Reading-clause-piece g c = step-none g.M.LineMachine.rules _ _ _ refl

pub returns-in-Ready-clause-piece : goal.returns-in-Ready-clause-piece
returns-in-Ready-clause-piece g c =
    step-line g.M.LineMachine.rules c.args.self.now c.take_line.new.self c.take_line.result c.requires.none
    (ap (λ (w : LineFiltering g.row.M.Denot). w.phase) (sym c.self.view_is) ∙ c.in-Ready.is) c.take_line.ensures

pub returns-in-ReadyLast-clause-piece : goal.returns-in-ReadyLast-clause-piece
returns-in-ReadyLast-clause-piece g c =
    let taken = c.take_line-in-ReadyLast in
    step-last g.M.LineMachine.rules c.args.self.now taken.new.self taken.result c.requires.none
    (ap (λ (w : LineFiltering g.row.M.Denot). w.phase) (sym c.self.view_is) ∙ c.in-ReadyLast.is) taken.ensures

pub returns-in-Closing-clause-piece : goal.returns-in-Closing-clause-piece
returns-in-Closing-clause-piece g c =
    let rules = g.M.LineMachine.rules in
    let s = c.self.inside in
    step-close rules c.args.self.now _ (ap (λ (w : LineFiltering g.row.M.Denot). w.phase) (sym c.self.view_is) ∙ c.in-Closing.is) c.requires.none
    (ap (λ (l : List ℕ). line_filtering s.machine s.line.items s.lines l Closed) c.close.ensures
    ∙ ap (λ (w : LineFiltering g.row.M.Denot). record w { left = rules.closing w.machine; phase = Closed }) c.self.view_is)
