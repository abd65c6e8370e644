-- A script whose lines are all read: they decode to its events and none is refused, by induction on the lines; and the state when its run is done.
-- For any machine that reads each line by itself.
use Rattle.std.proofs.Common.{◌≡◌, ℕ, ◌+◌, ◌≤◌, Bool, true, false, nat_lt, List, [], ◌∷◌, ◌++◌, length, map, take, Option, Some, None, Result, Ok, Err, ◌⊎◌, inl, inr, refl, ap, ap₂, sym, ◌∙◌, arith}
use Rattle.std.proofs.{lemmas.List.{take_all}, lemmas.Bool.Decides.{nat_tests}, lemmas.Bool.{cond-false}}
use Rattle.std.specs.{Prelude.{IfSome}, List.{flat_map}}
use Rattle.p25_delivery.specs.Runs.{EachIs}
use Rattle.p25_io.specs.Octets.{Appended}
use Rattle.p25_io.proofs.OctetsLaws.{Appended-same}
use Rattle.p25_line.specs.declared.fault.LineFault.{LineFault}
use Rattle.p25_line.proofs.LineReadLaws.{words-line_read}
use Rattle.p25_stations.specs.{Runs.{IsCleanRun, IsEvent, steps_of, world_run}, WorldState.{first_world}, declared.step.Event.{Event}}
use Rattle.p25_stations.proofs.{CleanLaws.{run-orderly, run-whole as sessions-whole}, FalsePassLaws.{clean-from_none}, StepListsLaws.{run-acknowledged, run-delivered, run-sent}}
use Rattle.p25_script.specs.{Script.{event_of}, LongScript.{IsLongScripted, long_event_of}, LongTexts.{long_step_text_of}, DuplexLines.{duplex_event_of}}
use Rattle.p25_script.proofs.{ScriptLaws.{IsEvent-IsScripted, event_laws}, LongScriptLaws.{long_event_laws}, DuplexLineLaws.{duplex_laws, is-event}}
use Rattle.p25_fragments.specs.{LongState.{first_long}, LongRuns.{IsCleanLongRun, IsLongEvent, long_run, long_steps_of}, declared.long_step.LongEvent.{LongEvent}}
use Rattle.p25_fragments.specs.declared.long_step.LongEvent.TheVariants.{Long, Inner}
use Rattle.p25_fragments.proofs.{LongHistoryLaws.{long-clean}, LongListsLaws.{run-finished, run-taken, run-whole}, LongRunLaws.{long-orderly, long-unrefused}}
use Rattle.p25_fragments.proofs.OrderLaws.{run-whole as long_sessions-whole}
use Rattle.p25_duplex.specs.{declared.event.DuplexEvent.{DuplexEvent}, declared.side.Side.{Side}, declared.side.Side.TheVariants.{A, B}, DuplexSteps.{first_duplex}}
use Rattle.p25_duplex.specs.DuplexRuns.{IsCleanDuplex, IsDuplexEvent, duplex_run, duplex_steps}
use Rattle.p25_duplex.proofs.{CountLaws.{clean-from_none as duplex-clean}, DuplexListsLaws.{run-acknowledged as duplex-acknowledged, run-heard, run-sent as duplex-sent}}
use Rattle.p25_duplex.proofs.{RunLaws.{run-orderly as duplex-orderly}, OrderLaws.{run-whole as duplex_sessions-whole}}
use Rattle.p25_filter.specs.{declared.ending.Ending.{Ending}, declared.ending.Ending.TheVariants.{Done as EndDone}, declared.ending.FilterEnd.{FilterEnd}}
use Rattle.p25_filter.specs.{declared.ending.FilterEnd.TheVariants.{Ended}, Futures.{Future}, Lines.{closing_by, lines_ending, lines_future, lines_in, read_of, refusal_in}}
use Rattle.p25_filter.specs.Runs.{IsFinal, Filtered, input_most}
use Rattle.p25_filter.proofs.{LinesLaws.{read_of-nil, read_of-ok, refusal_in-err, refusal_in-nil, refusal_in-ok}, RunsLaws.{ended-input}}
use Rattle.p25_tool.specs.{declared.command.Command.{Command}, declared.command.Command.TheVariants.{Stations, Fragments, Duplex}, declared.outcome.Outcome.{Outcome}}
use Rattle.p25_tool.specs.{declared.outcome.Outcome.TheVariants.{Done, Memory, TooLong as OutcomeTooLong}, Outcomes.{ending_outcome, filter_outcome}}
use Rattle.p25_tool.specs.Outputs.{CanWantMemory, closing_line, command_future, duplex_closing_lines, duplex_step_line, ending_by, long_closing_line, output_by, step_line}
use Rattle.p25_tool.specs.Runs.{answer_of, ending_or}
use Rattle.p25_tool.specs.Scripts.{HasDuplexRun, HasLongRun, HasRun, IsDuplexScriptOf, IsLongScriptOf, IsOrderlyLongRun, IsRunOf, IsScript, IsScriptOf, TellsLists, TellsListsOf, TellsLongLists}

-- how a line is read
abbrev Reading : Type 0 → Type 0
Reading E = List ℕ → Result E LineFault

-- the lines decode to the events, and none is refused
record AreReadAs {E : Type 0} (read : Reading E) (number : ℕ) (lines : List (List ℕ)) (events : List E) : Type 0 where
  pub events_are : read_of read lines ≡ events
  pub accepted : refusal_in read number lines ≡ None

with_event : {E : Type 0} (read : Reading E) (number : ℕ) (line : List ℕ) (lines : List (List ℕ)) (event : E) (events : List E) → read line ≡ Ok event → AreReadAs read (number + 1) lines events
    → AreReadAs read number (line ∷ lines) (event ∷ events)
with_event {E = E} read number line lines event events is rest = record {
  events_are = read_of-ok read line lines event is ∙ ap (λ (es : List E). event ∷ es) rest.events_are;
  accepted = refusal_in-ok read number line lines event is ∙ rest.accepted;
}

head_of : {E : Type 0} (read : Reading E) (line : List ℕ) (lines : List (List ℕ)) (event : E) (events : List E) → map read (line ∷ lines) ≡ map (λ e. Ok e) (event ∷ events)
    → (read line ≡ Ok event) × (map read lines ≡ map (λ e. Ok e) events)
head_of read line lines event events same = (cc same, cc same)

read-as : {E : Type 0} (read : Reading E) (lines : List (List ℕ)) (events : List E) (number : ℕ) → map read lines ≡ map (λ e. Ok e) events → AreReadAs read number lines events
read-as read [] [] number same = record { events_are = read_of-nil read; accepted = refusal_in-nil read number }
read-as read (line ∷ lines) (event ∷ events) number same =
    let parts = head_of read line lines event events same in
    with_event read number line lines event events parts.0 (read-as read lines events (number + 1) parts.1)
read-as read lines events number same = cc same

-- no line is refused by an ending that is Done
refusal-done : {E : Type 0} (read : Reading E) (lines : List (List ℕ)) (number : ℕ) → refusal_in read number lines ≡ Some EndDone → ⊥
refusal-done read [] number is = let none = refusal_in-nil read number in cc (none, is)
refusal-done {E = E} read (line ∷ lines) number is = by_read (read line) refl (λ rest. refusal-done read lines (number + 1) rest)
  where
    by_read : (result : Result E LineFault) → read line ≡ result → (refusal_in read (number + 1) lines ≡ Some EndDone → ⊥) → ⊥
    by_read (Ok event) same rest = rest (sym (refusal_in-ok read number line lines event same) ∙ is)
    by_read (Err fault) same rest = let bad = refusal_in-err read number line lines fault same in cc (bad, is)

-- while more octets may come a script is not done
not-done : (refusal : Option Ending) → (refusal ≡ Some EndDone → ⊥) → lines_ending false refusal ≡ Some EndDone → ⊥
not-done (Some ending) never is = never is
not-done None never is = cc is

ended-done : (ending : Ending) → ending_outcome ending ≡ Done → ending ≡ EndDone
ended-done EndDone is = refl
ended-done ending is = cc is

-- a condition on each event to which a line decodes is met by each of the events to which lines decode
each-read : {E : Type 0} (read : Reading E) (Is : E → Type 0) → ((line : List ℕ) (event : E) → read line ≡ Ok event → Is event)
    → (lines : List (List ℕ)) (events : List E) → map read lines ≡ map (λ e. Ok e) events → EachIs Is events
unfolding EachIs
each-read read Is known lines [] same = tt
each-read read Is known [] (event ∷ events) same = cc same
each-read read Is known (line ∷ lines) (event ∷ events) same =
    let parts = head_of read line lines event events same in
    (known line event parts.0, each-read read Is known lines events parts.1)

-- the run of a command that decodes each line to an event, and writes the lines of its steps
module _ {E S : Type 0} (read : Reading E) (steps : List E → List S) (line : S → List ℕ) (closing : List E → List ℕ) (command : Command)
    (is : command_future command ≡ lines_future read steps line closing true) (told left first last : Option (List ℕ)) (input : List ℕ) (events : List E)
    (script : IsScript read input events) (is_told : told ≡ Some input) where
  text : List E → List ℕ
  text all = flat_map line (steps all) ++ closing all

  are : AreReadAs read 1 (lines_in true [] input) events
  are = read-as read (lines_in true [] input) events 1 script.lines

  -- all lines of the run were written if the work is done
  wrote-final : (octets : List ℕ) (ending : Ending) → IsFinal told first last (command_future command) octets ending → ending ≡ EndDone → Appended first (text events) last
  unfolding text
  wrote-final octets ending final done = by_end final.ended final.all final.ends final.wrote
    where
      by_end : (ended : Bool) → (ended ≡ true → (length octets ≤ input_most) × IfSome told (λ all. all ≡ octets)) → ending_by command ended (take input_most octets) ≡ Some ending
          → Appended first (output_by command ended (take input_most octets)) last → Appended first (text events) last
      by_end true all ends wrote =
          let same : take input_most octets ≡ input = take_all input_most octets (all refl).0 ∙ sym (ended-input told octets input (all refl).1 is_told) in
          Appended-same (ap (output_by command true) same ∙ ap (λ (f : Future). f.writes true input) is
          ∙ ap₂ (λ (es : List E) (r : Option Ending). flat_map line (steps es) ++ closing_by true r (closing es)) are.events_are are.accepted) wrote
      by_end false all ends wrote =
          let lines = lines_in false [] (take input_most octets) in
          let same = ap (λ (f : Future). f.ends false (take input_most octets)) is in
          absurd (not-done (refusal_in read 1 lines) (refusal-done read lines 1) (sym same ∙ ends ∙ ap (λ (e : Ending). Some e) done))

  wrote-done : (end : FilterEnd) → Filtered told left first last (command_future command) end → filter_outcome end ≡ Done → Appended first (text events) last
  wrote-done (Ended ending) worked same = wrote-final worked.octets ending worked.meets (ended-done ending same)
  wrote-done end worked same = cc same

  -- the result for such a script is Done
  answer-done : answer_of command input ≡ Done
  answer-done =
      let short : answer_of command input ≡ ending_or (ending_by command true input) OutcomeTooLong
      = cond-false (nat_lt input_most (length input)) _ _ (grind (arith, nat_tests, script.short)) in
      short ∙ ap (λ (o : Option Ending). ending_or o OutcomeTooLong)
      (ap (λ (f : Future). f.ends true input) is ∙ ap (λ (r : Option Ending). lines_ending true r) are.accepted)

  script-ended : (outcome : Outcome) → (outcome ≡ answer_of command input) ⊎ ((outcome ≡ Memory) × CanWantMemory command) → (outcome ≡ Done) ⊎ (outcome ≡ Memory)
  script-ended outcome (inl same) = inl (same ∙ answer-done)
  script-ended outcome (inr wanting) = inr wanting.0

  run-of : (passes : List E → ℕ) (IsClean IsOrderlyRun Tells : List E → Type 0) → (passes events ≡ 0 → IsClean events)
      → (IsClean events → IsOrderlyRun events) → Tells events → (end : FilterEnd) (outcome : Outcome) → outcome ≡ filter_outcome end
      → Filtered told left first last (command_future command) end → (outcome ≡ answer_of command input) ⊎ ((outcome ≡ Memory) × CanWantMemory command)
      → IsRunOf (λ all. flat_map line (steps all) ++ closing all) passes IsClean IsOrderlyRun Tells first last events outcome
  unfolding text
  run-of passes IsClean IsOrderlyRun Tells counted orderly tells end outcome same worked complete = record {
    ended = script-ended outcome complete;
    wrote = λ done. wrote-done end worked (sym same ∙ done);
    told = tells;
    orderly = orderly;
    counted = counted;
  }

-- the law of a run of a command whose input is the script of some events
abbrev pub RunsAs : {E : Type 0} → Command → (List ℕ → List E → Type 0) → (Option (List ℕ) → Option (List ℕ) → List E → Outcome → Type 0) → Type 0
RunsAs {E} command IsScriptFor HasRunFor =
    (told left first last : Option (List ℕ)) (input : List ℕ) (events : List E)
    → IsScriptFor input events → told ≡ Some input → (end : FilterEnd) (outcome : Outcome) → outcome ≡ filter_outcome end
    → Filtered told left first last (command_future command) end → (outcome ≡ answer_of command input) ⊎ ((outcome ≡ Memory) × CanWantMemory command)
    → HasRunFor first last events outcome

-- Scripts of the stations.

is_event : (line : List ℕ) (event : Event) → event_of line ≡ Ok event → IsEvent event
is_event line event same = IsEvent-IsScripted event (words-line_read event_laws line event same).fits

tells-lists : (events : List Event) → TellsLists events
tells-lists events = record {
  delivered = run-delivered events first_world;
  sent = run-sent events first_world;
  acknowledged = omega (arith, run-acknowledged events first_world);
  sessions = sessions-whole events;
}

pub script-run : RunsAs Stations IsScriptOf HasRun
script-run told left first last input events script is_told =
    run-of event_of (steps_of first_world) step_line (λ all. closing_line (world_run first_world all)) Stations refl told left first last input events script is_told
    (λ all. (world_run first_world all).false_passes) IsCleanRun _ TellsLists
    (clean-from_none events) (run-orderly events (each-read event_of IsEvent is_event (lines_in true [] input) events script.lines))
    (tells-lists events)

-- Scripts of long messages.

is-long_event : (line : List ℕ) (event : LongEvent) → long_event_of line ≡ Ok event → IsLongEvent event
unfolding IsLongScripted IsLongEvent
is-long_event line event same = by_event event (words-line_read long_event_laws line event same).fits
  where
    by_event : (event : LongEvent) → IsLongScripted event → IsLongEvent event
    by_event (Long message) fits = fits.short
    by_event (Inner event) fits = fits.no_offer

tells-long_lists : (events : List LongEvent) → TellsLongLists events
tells-long_lists events = record {
  whole = run-whole events first_long;
  taken = run-taken events first_long;
  acknowledged = omega (arith, run-finished events first_long);
  sessions = long_sessions-whole events;
}

pub long-script-run : RunsAs Fragments IsLongScriptOf HasLongRun
long-script-run told left first last input events script is_told =
    let fit = each-read long_event_of IsLongEvent is-long_event (lines_in true [] input) events script.lines in
    run-of long_event_of (long_steps_of first_long) long_step_text_of (λ all. long_closing_line (long_run first_long all)) Fragments refl told left first last input events script is_told
    (λ all. (long_run first_long all).inner.false_passes) IsCleanLongRun IsOrderlyLongRun TellsLongLists (long-clean events) (λ clean. (long-unrefused events fit clean, long-orderly events fit clean))
    (tells-long_lists events)

-- Scripts of both stations.

is-duplex_event : (line : List ℕ) (event : DuplexEvent) → duplex_event_of line ≡ Ok event → IsDuplexEvent event
is-duplex_event line event same = is-event event (words-line_read duplex_laws line event same).fits

tells-lists_of : (events : List DuplexEvent) (side : Side) → TellsListsOf events side
tells-lists_of events A = record {
  delivered = run-heard B events first_duplex;
  sent = duplex-sent A events first_duplex;
  acknowledged = omega (arith, duplex-acknowledged A events first_duplex);
  sessions = duplex_sessions-whole events A;
}
tells-lists_of events B = record {
  delivered = run-heard A events first_duplex;
  sent = duplex-sent B events first_duplex;
  acknowledged = omega (arith, duplex-acknowledged B events first_duplex);
  sessions = duplex_sessions-whole events B;
}

pub duplex-script-run : RunsAs Duplex IsDuplexScriptOf HasDuplexRun
duplex-script-run told left first last input events script is_told =
    let fit = each-read duplex_event_of IsDuplexEvent is-duplex_event (lines_in true [] input) events script.lines in
    run-of duplex_event_of (duplex_steps first_duplex) duplex_step_line (λ all. duplex_closing_lines (duplex_run first_duplex all)) Duplex refl told left first last input events script is_told
    (λ all. (duplex_run first_duplex all).false_passes) IsCleanDuplex _ (λ all. (side : Side) → TellsListsOf all side) (duplex-clean events) (λ clean side. duplex-orderly events side fit clean)
    (λ side. tells-lists_of events side)
