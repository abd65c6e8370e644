use Rattle.std.proofs.Common.{List, ◌++◌, ap, sym, subst, ◌∙◌}
use Rattle.p25_io.specs.Events.{Event}
use Rattle.p25_tool.specs.{CallRuns.{IsCallRun}, Words.{command_of}}
use Rattle.p25_tool.proofs.command_run.run_on_tape.Goals as goal

pub returns : goal.returns
returns c = record {
  called = λ whole.
      let went = c.run_on.ensures.called in
      let told = went.1.told whole in
      subst (λ (es : List Event). IsCallRun (command_of c.args.words.now) es c.run_on.result) (sym (told.1 ∙ ap (λ (es : List Event). es ++ went.0) c.requires.blank)) went.2;
}
