use Rattle.p25_filter.proofs.LineFiltersLaws.{step-done}
use Rattle.p25_filter.proofs.line_filter.LineFilterFilter.ending.Goals as goal

pub returns : goal.returns
returns g c = step-done g.M.LineMachine.rules c.args.self.now c.requires.finished c.requires.drained.0
