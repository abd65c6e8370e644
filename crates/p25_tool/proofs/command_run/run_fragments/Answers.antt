use Rattle.std.proofs.Common.{ap, subst, ◌∙◌}
use Rattle.p25_filter.specs.{Futures.{Future}, LineFilters.{first_line, line_future}, Traces.{IsRun}}
use Rattle.p25_tool.specs.Machines.{ScriptState, script_rules}
use Rattle.p25_tool.proofs.ScriptRunsLaws.{fragments-alike}
use Rattle.p25_tool.proofs.command_run.run_fragments.Goals as goal

pub returns : goal.returns
returns g c =
    let went = c.run_lines.ensures in
    (went.0, went.1, subst (λ (future : Future). IsRun future went.0 c.run_lines.result) (ap (λ (m : ScriptState). line_future script_rules (first_line m)) c.new-2.ensures ∙ fragments-alike _ c.new.ensures.state) went.2)
