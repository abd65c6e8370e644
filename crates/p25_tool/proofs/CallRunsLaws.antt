-- The state after a call, by its events and by the exposed octets that they read and wrote; and so between a source and a sink that went through
-- them.
use Rattle.std.proofs.Common.{◌≡◌, ℕ, ◌≤◌, false, List, [], ◌∷◌, ◌++◌, length, Option, Some, None, refl, ap, sym, subst, ◌∙◌, ◌⊎◌, ◌↔◌}
use Rattle.std.specs.Prelude.{IfSome}
use Rattle.p25_io.specs.{Events.{Event, Read, ReadFailed, Wrote, WriteFailed}, Faults.{Rose}, Pairs.{SinkGoes, SourceGoes}}
use Rattle.p25_filter.specs.{Futures.{Future}, Runs.{Filtered, all_written, input_most}}
use Rattle.p25_filter.specs.Traces.{AreReads, Broken, Going, HasReadFault, HasWriteFault, IsFinalAt, IsMemoryAt, IsRun, Over, Phase, after_all, at_first}
use Rattle.p25_filter.specs.{declared.ending.Ending.{Ending}, declared.ending.Ending.TheVariants.{Done}, declared.ending.FilterEnd.{FilterEnd}}
use Rattle.p25_filter.specs.declared.ending.FilterEnd.TheVariants.{Ended, ReadFault as EndedReadFault, WriteFault as EndedWriteFault, TooLong, Memory as NoMemory}
use Rattle.p25_filter.proofs.{LinesLaws.{Contains-none}, RunsLaws.{run-filtered, run-quiet, run-read_fault, run-write_fault}, WentLaws.{SinkGoes-rose, SourceGoes-rose, Went, pair-went}}
use Rattle.p25_stations.specs.declared.step.Event.{Event as StationsEvent}
use Rattle.p25_fragments.specs.declared.long_step.LongEvent.{LongEvent}
use Rattle.p25_duplex.specs.declared.event.DuplexEvent.{DuplexEvent}
use Rattle.p25_tool.specs.{CallClauses.{CallSays}, CallRuns.{AreWrites, IsCallRun, IsCommandRun}, declared.command.Command.{Command}}
use Rattle.p25_tool.specs.{declared.command.Command.TheVariants.{Duplex, Fragments, Sample, Stations}, declared.outcome.Outcome.{Outcome}}
use Rattle.p25_tool.specs.{declared.outcome.Outcome.TheVariants.{Done as DoneOutcome, Memory, ReadFault, Usage, WriteFault}, Outcomes.{ending_outcome, filter_outcome}}
use Rattle.p25_tool.specs.{Outputs.{CanWantMemory, command_future}, Runs.{Ran, answer_of}, Recorded.{IsRecording}, RecordedRuns.{HasWrittenUnits, IsUnitCommand}, Words.{command_of}}
use Rattle.p25_tool.specs.Scripts.{HasDuplexRun, HasLongRun, HasRun, IsDuplexScriptOf, IsLongScriptOf, IsScriptOf}
use Rattle.p25_stream.specs.Arrivals.{Arrival}
use Rattle.p25_tool.proofs.{RecordedRunsLaws.{command-fit, units-run}, RunsLaws.{answer-without-faults, memory-command}, ScriptsLaws.{duplex-script-run, long-script-run, script-run}}

-- the run of a command that reads, by its name and by a future that is its own
pub alike-run : {P : Type 0} (moves : P → List Event → P → Type 0) (first last : P) (f : Future) (named command : Command) (end : FilterEnd)
    → command ≡ named → f ≡ command_future named → ((count : ℕ) → named ≡ Sample count → ⊥)
    → ((events : List Event) × moves first events last × IsRun f events end)
    → (events : List Event) × moves first events last × IsRun (command_future command) events end × ((count : ℕ) → command ≡ Sample count → AreWrites events)
alike-run moves first last f named command end is alike other went = (
  went.0,
  went.1,
  subst (λ (future : Future). IsRun future went.0 end) (alike ∙ ap command_future (sym is)) went.2,
  λ count sampled. absurd (other count (sym is ∙ sampled)),
)

-- the outcome of an end states the fault, and is not that of words that name no command
ending-not_usage : (ending : Ending) → ending_outcome ending ≡ Usage → ⊥
ending-not_usage Done is = cc
ending-not_usage ending is = cc

not-usage : (end : FilterEnd) → filter_outcome end ≡ Usage → ⊥
not-usage (Ended ending) is = ending-not_usage ending is
not-usage end is = cc

ending-not_read : (ending : Ending) → ending_outcome ending ≡ ReadFault → ⊥
ending-not_read Done is = cc
ending-not_read ending is = cc

is-read_fault : (end : FilterEnd) → filter_outcome end ≡ ReadFault → end ≡ EndedReadFault
is-read_fault (Ended ending) is = absurd (ending-not_read ending is)
is-read_fault end is = cc

ending-not_write : (ending : Ending) → ending_outcome ending ≡ WriteFault → ⊥
ending-not_write Done is = cc
ending-not_write ending is = cc

is-write_fault : (end : FilterEnd) → filter_outcome end ≡ WriteFault → end ≡ EndedWriteFault
is-write_fault (Ended ending) is = absurd (ending-not_write ending is)
is-write_fault end is = cc

-- no read fails among writes
writes-end : (before : List Event) → AreWrites (before ++ ReadFailed ∷ []) → ⊥
writes-end (Wrote piece ∷ before) writes = writes-end before writes
writes-end (WriteFailed piece count ∷ before) writes = writes-end before writes
writes-end before writes = writes

-- `sample` ends as Done by any octets, and never because an allocation failed
sample-final : (count : ℕ) (phase : Phase) (octets text : List ℕ) (ending : Ending) → IsFinalAt (command_future (Sample count)) phase octets text ending → ending ≡ Done
sample-final count Going octets text ending final = let same : Some Done ≡ Some ending = final.0 false [] in cc
sample-final count Over octets text ending final = let same : Some Done ≡ Some ending = final.0 in cc
sample-final count Broken octets text ending final = absurd final

sample-memory : (count : ℕ) (phase : Phase) (octets text : List ℕ) → IsMemoryAt (command_future (Sample count)) phase octets text → ⊥
sample-memory count Broken octets text wants = wants
sample-memory count phase octets text wants = Contains-none text wants

-- so it ends as Done if no write fails
sample-done : (count : ℕ) (events : List Event) (end : FilterEnd) → IsRun (command_future (Sample count)) events end → AreWrites events → (end ≡ EndedWriteFault → ⊥) → filter_outcome end ≡ DoneOutcome
sample-done count events (Ended ending) run writes no_fault =
    let at = after_all at_first events in
    ap ending_outcome (sample-final count at.phase at.octets at.text ending run.ends)
sample-done count events EndedReadFault run writes no_fault = absurd (writes-end run.ends.0 (subst AreWrites run.ends.1 writes))
sample-done count events EndedWriteFault run writes no_fault = absurd (no_fault refl)
sample-done count events TooLong run writes no_fault = let none : Some Done ≡ None = run.ends.ends in absurd (cc)
sample-done count events NoMemory run writes no_fault = let at = after_all at_first events in absurd (sample-memory count at.phase at.octets at.text run.ends)

-- the run of the command that the words name
pub named-run : (named : Option Command) (command : Command) (events : List Event) (outcome : Outcome) → named ≡ Some command → IsCallRun named events outcome
    → IsCommandRun command events outcome
named-run named command events outcome same call = subst (λ (o : Option Command). IsCallRun o events outcome) same call

pub call-usage : (named : Option Command) (events : List Event) (outcome : Outcome) → IsCallRun named events outcome → (outcome ≡ Usage) ↔ (named ≡ None)
call-usage None events outcome call = (λ is. refl, λ none. call.1)
call-usage (Some command) events outcome call = (λ is. absurd (not-usage call.end (sym call.outcome_is ∙ is)), λ none. cc)

module _ (told left first last : Option (List ℕ)) (events : List Event) (outcome : Outcome) (went : Went told left first last events) where
  call-untouched : (named : Option Command) → IsCallRun named events outcome → outcome ≡ Usage → AreWrites events × AreReads events
  call-untouched None call is = (subst AreWrites (sym call.0) tt, subst AreReads (sym call.0) tt)
  call-untouched (Some command) call is = absurd (not-usage call.end (sym call.outcome_is ∙ is))

  command-filtered : (command : Command) → (call : IsCommandRun command events outcome) → Filtered told left first last (command_future command) call.end
  command-filtered command call = run-filtered told left first last (command_future command) events call.end call.run went

  call-ran : (named : Option Command) → IsCallRun named events outcome → IfSome named (λ command. Ran told left first last command outcome)
  call-ran None call = tt
  call-ran (Some command) call = record { end = call.end; outcome_is = call.outcome_is; worked = command-filtered command call }

  -- a fault has its cause
  command-read_fault : (command : Command) → IsCommandRun command events outcome → outcome ≡ ReadFault → HasReadFault events
  command-read_fault command call is =
      run-read_fault (command_future command) events call.end call.run (is-read_fault call.end (sym call.outcome_is ∙ is))

  command-write_fault : (command : Command) → IsCommandRun command events outcome → outcome ≡ WriteFault → HasWriteFault events
  command-write_fault command call is =
      run-write_fault (command_future command) events call.end call.run (is-write_fault call.end (sym call.outcome_is ∙ is))

  call-read_fault : (named : Option Command) → IsCallRun named events outcome → outcome ≡ ReadFault → HasReadFault events
  call-read_fault None call is = let wrong : Usage ≡ ReadFault = sym call.1 ∙ is in cc
  call-read_fault (Some command) call is = command-read_fault command call is

  call-write_fault : (named : Option Command) → IsCallRun named events outcome → outcome ≡ WriteFault → HasWriteFault events
  call-write_fault None call is = let wrong : Usage ≡ WriteFault = sym call.1 ∙ is in cc
  call-write_fault (Some command) call is = command-write_fault command call is

  call-memory : (named : Option Command) → IsCallRun named events outcome → outcome ≡ Memory → IfSome named CanWantMemory
  call-memory None call is = tt
  call-memory (Some command) call is = memory-command command told left first last call.end (command-filtered command call) (sym call.outcome_is ∙ is)

  -- without a fault the outcome is the result for the input, or an allocation failed
  command-complete : (command : Command) → IsCommandRun command events outcome → (input : List ℕ) → told ≡ Some input → (HasReadFault events → ⊥)
      → (HasWriteFault events → ⊥) → (outcome ≡ answer_of command input) ⊎ ((outcome ≡ Memory) × CanWantMemory command)
  command-complete command call input same no_read no_write =
      subst (λ (o : Outcome). (o ≡ answer_of command input) ⊎ ((o ≡ Memory) × CanWantMemory command)) (sym call.outcome_is)
      (answer-without-faults command told left first last call.end (command-filtered command call)
      (λ is. no_read (run-read_fault (command_future command) events call.end call.run is))
      (λ is. no_write (run-write_fault (command_future command) events call.end call.run is)) input same)

  -- all that a call says
  pub events-say : (words : List (List ℕ)) → IsCallRun (command_of words) events outcome
      → CallSays (command_of words) told left first last (HasReadFault events) (HasWriteFault events) (AreWrites events) (AreReads events) outcome
  events-say words call = record {
    usage = call-usage (command_of words) events outcome call;
    untouched = call-untouched (command_of words) call;
    ran = call-ran (command_of words) call;
    unread = λ count same. (run-of (Sample count) same).unread count refl;
    quiet = λ command input same is none.
        let run = run-of command same in run-quiet told left first last (command_future command) events run.end run.run went input is none;
    complete = λ command input same is no_read no_write. command-complete command (run-of command same) input is no_read no_write;
    sampled = λ count same no_write.
        let run = run-of (Sample count) same in
        run.outcome_is
        ∙ sample-done count events run.end run.run (run.unread count refl)
        (λ is. no_write (run-write_fault (command_future (Sample count)) events run.end run.run is));
    stations = λ input script same is of no_read no_write.
        let run = run-of Stations same in
        script-run told left first last input script of is run.end outcome run.outcome_is (command-filtered Stations run)
        (command-complete Stations run input is no_read no_write);
    fragments = λ input script same is of no_read no_write.
        let run = run-of Fragments same in
        long-script-run told left first last input script of is run.end outcome run.outcome_is (command-filtered Fragments run)
        (command-complete Fragments run input is no_read no_write);
    duplex = λ input script same is of no_read no_write.
        let run = run-of Duplex same in
        duplex-script-run told left first last input script of is run.end outcome run.outcome_is (command-filtered Duplex run)
        (command-complete Duplex run input is no_read no_write);
    recorded = λ command arrivals input same units is recorded few no_read no_write.
        let run = run-of command same in
        units-run arrivals input recorded command told left first last
        (λ nac status.
        let fit = command-fit nac status words in
        ((λ is. fit.0 (same ∙ ap (λ (c : Command). Some c) is)), (λ is. fit.1 (same ∙ ap (λ (c : Command). Some c) is)))) units few is run.end outcome
        run.outcome_is (command-filtered command run) (command-complete command run input is no_read no_write);
    read_fault = call-read_fault (command_of words) call;
    write_fault = call-write_fault (command_of words) call;
    memory = call-memory (command_of words) call;
  }
    where
      run-of : (command : Command) → command_of words ≡ Some command → IsCommandRun command events outcome
      run-of command same = named-run (command_of words) command events outcome same call

-- the laws of a call for some faults hold for others that they imply
pub says-by : (named : Option Command) (told left first last : Option (List ℕ)) (read read_now write write_now source source_now sink sink_now : Type 0) (outcome : Outcome)
    → (read → read_now) → (write → write_now) → (source → source_now) → (sink → sink_now) → CallSays named told left first last read write source sink outcome
    → CallSays named told left first last read_now write_now source_now sink_now outcome
says-by named told left first last read read_now write write_now source source_now sink sink_now outcome reads writes sources sinks says = record {
  usage = says.usage;
  untouched = λ is. let kept = says.untouched is in (sources kept.0, sinks kept.1);
  ran = says.ran;
  unread = λ count is. sources (says.unread count is);
  quiet = λ command input is same none. sinks (says.quiet command input is same none);
  complete = λ command input is same no_read no_write. says.complete command input is same (λ failed. no_read (reads failed)) (λ failed. no_write (writes failed));
  sampled = λ count is no_write. says.sampled count is (λ failed. no_write (writes failed));
  stations = λ input script is same of no_read no_write. says.stations input script is same of (λ failed. no_read (reads failed)) (λ failed. no_write (writes failed));
  fragments = λ input script is same of no_read no_write. says.fragments input script is same of (λ failed. no_read (reads failed)) (λ failed. no_write (writes failed));
  duplex = λ input script is same of no_read no_write. says.duplex input script is same of (λ failed. no_read (reads failed)) (λ failed. no_write (writes failed));
  recorded = λ command arrivals input is units same of few no_read no_write.
      says.recorded command arrivals input is units same of few (λ failed. no_read (reads failed)) (λ failed. no_write (writes failed));
  read_fault = λ is. reads (says.read_fault is);
  write_fault = λ is. writes (says.write_fault is);
  memory = says.memory;
}

-- a source of which nothing is read stays as it was
unread-source : {S : Type 0} (left : S → Option (List ℕ)) (faults : S → ℕ) (first last : S) (events : List Event) → SourceGoes left faults first events last → AreWrites events
    → last ≡ first
unread-source left faults first last [] goes writes = goes
unread-source left faults first last (Wrote piece ∷ events) goes writes = unread-source left faults first last events goes writes
unread-source left faults first last (WriteFailed piece count ∷ events) goes writes = unread-source left faults first last events goes writes
unread-source left faults first last events goes writes = absurd writes

-- and a sink to which nothing is written
unwritten-sink : {K : Type 0} (written : K → Option (List ℕ)) (faults : K → ℕ) (first last : K) (events : List Event) → SinkGoes written faults first events last → AreReads events
    → last ≡ first
unwritten-sink written faults first last [] goes reads = goes
unwritten-sink written faults first last (Read octets ∷ events) goes reads = unwritten-sink written faults first last events goes reads
unwritten-sink written faults first last (ReadFailed ∷ events) goes reads = unwritten-sink written faults first last events goes reads
unwritten-sink written faults first last events goes reads = absurd reads

-- all of these between a source and a sink
pub call-says : {S K : Type 0} (left : S → Option (List ℕ)) (source_faults : S → ℕ) (written : K → Option (List ℕ)) (sink_faults : K → ℕ)
    (source source_now : S) (sink sink_now : K) (events : List Event) (outcome : Outcome) → SourceGoes left source_faults source events source_now
    → SinkGoes written sink_faults sink events sink_now → (words : List (List ℕ)) → IsCallRun (command_of words) events outcome
    → CallSays (command_of words) (left source) (left source_now) (written sink) (written sink_now) (Rose (source_faults source) (source_faults source_now))
    (Rose (sink_faults sink) (sink_faults sink_now)) (source_now ≡ source) (sink_now ≡ sink) outcome
call-says left source_faults written sink_faults source source_now sink sink_now events outcome read wrote words call =
    says-by (command_of words) (left source) (left source_now) (written sink) (written sink_now) (HasReadFault events) _ (HasWriteFault events) _ (AreWrites events) _
    (AreReads events) _ outcome (SourceGoes-rose left source_faults source source_now events read) (SinkGoes-rose written sink_faults sink sink_now events wrote)
    (unread-source left source_faults source source_now events read) (unwritten-sink written sink_faults sink sink_now events wrote)
    (events-say (left source) (left source_now) (written sink) (written sink_now) events outcome
    (pair-went left source_faults written sink_faults source source_now sink sink_now events read wrote) words call)
