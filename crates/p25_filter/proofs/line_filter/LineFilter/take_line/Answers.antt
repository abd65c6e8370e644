use Rattle.std.proofs.Common.{refl}
use Rattle.p25_filter.proofs.LineFiltersLaws.{text-taken}
use Rattle.p25_filter.proofs.line_filter.LineFilter.take_line.Goals as goal

pub returns-in-Ok : goal.returns-in-Ok
returns-in-Ok g c =
    let s = c.self.inside in (
      refl,
      text-taken g.M.LineMachine.rules c.args.self.now s.machine c.take.new.self _ s.line.items _ c.take.new.text s.lines _ s.phase c.args.phase
          c.self.view_is c.as_slice.ensures.value c.clear-in-Ok.ensures c.in-Ok.ensures,
    )
