-- The output of the work on lines, from the first octet on, is its output by definition: the texts of its steps, and the text that closes them. By
-- recursion on the lines.
use Rattle.std.proofs.Common.{◌≡◌, ℕ, ◌+◌, cond, List, [], ◌∷◌, ◌++◌, map, Option, Some, Result, Ok, Err, refl, ap, ap₂, ◌∙◌}
use Rattle.std.specs.{List.{concat, flat_map}, Result.{result_map_both}}
use Rattle.p25_line.specs.declared.fault.LineFault.{LineFault}
use Rattle.p25_status.specs.declared.symbols.Status.{Status}
use Rattle.p25_text.specs.Grammar.{read_line_of}
use Rattle.p25_units.specs.{UnitParts.{UnitParts}, Units.{image_octets}}
use Rattle.p25_delivery.specs.Runs.{run_by, steps_by}
use Rattle.p25_stations.specs.{Steps.{world_step}, WorldState.{WorldState, first_world}}
use Rattle.p25_script.specs.{Script.{event_of}, LongScript.{long_event_of}, LongTexts.{long_step_text_of}, DuplexLines.{duplex_event_of}}
use Rattle.p25_fragments.specs.{LongState.{LongState, first_long}, LongSteps.{long_step}, declared.long_step.{LongEvent.{LongEvent}, LongStep.{LongStep}}}
use Rattle.p25_duplex.specs.DuplexSteps.{DuplexState, first_duplex, duplex_step}
use Rattle.p25_filter.specs.{declared.ending.Ending.{Ending}, declared.ending.Ending.TheVariants.{BadLine}, Lines.{closing_by, lines_ending, lines_future, lines_in, read_of, refusal_in, texts_before}}
use Rattle.p25_filter.specs.{LineRules.{LineRules, LinesTaken, first_taken, lines_taken, written_for}, LineFilters.{first_line, line_future}}
use Rattle.p25_filter.proofs.{LinesLaws.{each_behind-none}, SameLaws.{same-future}}
use Rattle.p25_tool.specs.{declared.command.Command.TheVariants.{Build as BuildIt, Stations, Fragments, Duplex}}
use Rattle.p25_tool.specs.{Machines.{DuplexAt, LongAt, StationsAt, build_rules, script_rules, taken_by}, Outputs.{command_future, duplex_step_line, long_closing_line, step_line}}

concat_texts : {S : Type 0} (text : S → List ℕ) (steps : List S) → concat (map text steps) ≡ flat_map text steps
concat_texts text [] = refl
concat_texts text (step ∷ steps) = ap (λ (zs : List ℕ). text step ++ zs) (concat_texts text steps)

module _ {M W E S : Type 0} (rules : LineRules M) (wrap : W → M) (read : List ℕ → Result E LineFault) (step : W → E → W × S) (text : S → List ℕ)
    (takes : (w : W) (line : List ℕ) → rules.take (wrap w) line ≡ taken_by wrap read step text w line) where
  -- the result of events, before a refusal or none
  abbrev come_of : W → List E → Option Ending → LinesTaken M
  come_of w events refusal = record { texts = map text (steps_by step w events); machine = wrap (run_by step w events); refusal = refusal }

  -- the result of lines is that of the events to which they decode
  came : (lines : List (List ℕ)) (number : ℕ) (w : W) → lines_taken rules.take number (wrap w) lines ≡ come_of w (read_of read lines) (refusal_in read number lines)
  unfolding lines_taken steps_by run_by read_of refusal_in
  came [] number w = refl
  came (line ∷ lines) number w = ap (first_taken number (wrap w) after) (takes w line) ∙ by_read (came lines (number + 1)) (read line)
    where
      after : M → LinesTaken M
      after next = lines_taken rules.take (number + 1) next lines

      by_read : ((v : W) → after (wrap v) ≡ come_of v (read_of read lines) (refusal_in read (number + 1) lines)) → (is : Result E LineFault)
          → first_taken number (wrap w) after (result_map_both (λ event. (wrap (step w event).0, text (step w event).1)) (λ fault. fault) is)
          ≡ come_of w (elim is [ Ok event ↦ event ∷ read_of read lines | Err fault ↦ [] ])
          (elim is [ Ok event ↦ refusal_in read (number + 1) lines | Err fault ↦ Some (BadLine number fault) ])
      by_read rest (Ok event) = ap (λ (t : LinesTaken M). record t { texts = text (step w event).1 ∷ t.texts }) (rest (step w event).0)
      by_read rest (Err fault) = refl

  alike : (first made : W) (steps : List E → List S) (closing : List E → List ℕ) → ((events : List E) → steps_by step first events ≡ steps events)
      → ((events : List E) → rules.closing (wrap (run_by step first events)) ≡ closing events) → made ≡ first
      → line_future rules (first_line (wrap made)) ≡ lines_future read steps text closing rules.wants
  unfolding line_future written_for
  alike first made steps closing stepped closed same =
      ap (λ (w : W). line_future rules (first_line (wrap w))) same ∙ same-future
      (λ is octets.
      let lines = lines_in is [] octets in
      let events = read_of read lines in
      ap (written_for rules is) (came lines 1 first)
      ∙ ap₂ (λ (zs os : List ℕ). zs ++ closing_by is (refusal_in read 1 lines) os) (concat_texts text (steps_by step first events) ∙ ap (flat_map text) (stepped events)) (closed events))
      (λ is octets. ap (λ (t : LinesTaken M). lines_ending is t.refusal) (came (lines_in is [] octets) 1 first))
      (λ is octets.
      let lines = lines_in is [] octets in
      ap (λ (ts : List (List ℕ)). cond rules.wants ts [])
      (each_behind-none (texts_before (lines_taken rules.take 1 (wrap first) lines).texts)
      ∙ ap (λ (t : LinesTaken M). texts_before t.texts) (came lines 1 first) ∙ ap (λ (ss : List S). texts_before (map text ss)) (stepped (read_of read lines))))

pub stations-alike : (made : WorldState) → made ≡ first_world → line_future script_rules (first_line (StationsAt made)) ≡ command_future Stations
stations-alike made = alike script_rules StationsAt event_of world_step step_line (λ w line. refl) first_world made _ _ (λ events. refl) (λ events. refl)

pub fragments-alike : (made : LongState) → made ≡ first_long → line_future script_rules (first_line (LongAt made)) ≡ command_future Fragments
fragments-alike made = alike script_rules LongAt long_event_of long_step long_step_text_of (λ w line. refl) first_long made _ _ (λ events. refl) (λ events. refl)

pub duplex-alike : (made : DuplexState) → made ≡ first_duplex → line_future script_rules (first_line (DuplexAt made)) ≡ command_future Duplex
duplex-alike made = alike script_rules DuplexAt duplex_event_of duplex_step duplex_step_line (λ w line. refl) first_duplex made _ _ (λ events. refl) (λ events. refl)

-- a step of `build` is its data unit, without a world
building : Unit {0} → UnitParts → Unit {0} × UnitParts
building none unit = (none, unit)

units-told : (none : Unit {0}) (units : List UnitParts) → steps_by building none units ≡ units
unfolding steps_by building
units-told none [] = refl
units-told none (unit ∷ units) = ap (λ us. unit ∷ us) (units-told none units)

pub build-alike : (status made : Status) → made ≡ status → line_future build_rules (first_line made) ≡ command_future (BuildIt status)
unfolding building
build-alike status made same =
    ap (λ s. line_future build_rules (first_line s)) same
    ∙ alike build_rules (λ none. status) read_line_of building (image_octets status) (λ none line. refl) tt tt _ _ (units-told tt) (λ units. refl) refl
