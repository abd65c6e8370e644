-- The machines of the commands over lines: the result of each line, and the output at the end.
use Rattle.std.specs.{Prelude.{ℕ, true, false, List, [], Result}, Result.{result_map_both}}
use Rattle.p25_line.specs.declared.fault.LineFault.{LineFault}
use Rattle.p25_status.specs.declared.symbols.Status.{Status}
use Rattle.p25_text.specs.Grammar.{read_line_of}
use Rattle.p25_units.specs.Units.{image_octets}
use Rattle.p25_stations.specs.{Steps.{world_step}, WorldState.{WorldState}}
use Rattle.p25_script.specs.{Script.{event_of}, LongScript.{long_event_of}, LongTexts.{long_step_text_of}, DuplexLines.{duplex_event_of}}
use Rattle.p25_fragments.specs.{LongState.{LongState}, LongSteps.{long_step}}
use Rattle.p25_duplex.specs.DuplexSteps.{DuplexState, duplex_step}
use Rattle.p25_filter.specs.LineRules.{LineRules}
use Rattle.p25_tool.specs.{declared.scripts.ScriptWorld.{ScriptWorld}}
use Rattle.p25_tool.specs.declared.scripts.ScriptWorld.TheVariants.{Stations, Long, Duplex}
use Rattle.p25_tool.specs.Outputs.{closing_line, duplex_closing_lines, duplex_step_line, long_closing_line, step_line}

-- `build`: the octets of the data unit that a line describes, with one status symbol; nothing closes them, and no memory is allocated
abbrev pub build_rules : LineRules Status
build_rules = record {
  take = λ status line. result_map_both (λ unit. (status, image_octets status unit)) (λ fault. fault) (read_line_of line);
  closing = λ status. [];
  wants = false;
}

-- the state of the world in which the events of a script happen
pub data ScriptState : Type 0 where
  StationsAt : WorldState → ScriptState
  LongAt : LongState → ScriptState
  DuplexAt : DuplexState → ScriptState

abbrev pub state_of : ScriptWorld → ScriptState
state_of (Stations world) = StationsAt world.state
state_of (Long world) = LongAt world.state
state_of (Duplex world) = DuplexAt world.state

-- the result of a line of a script: the world after the step of its event, and the text of the step
abbrev pub taken_by : {M W E S : Type 0} → (W → M) → (List ℕ → Result E LineFault) → (W → E → W × S) → (S → List ℕ) → W → List ℕ
    → Result (M × List ℕ) LineFault
taken_by wrap read step text world line =
    result_map_both (λ event. (wrap (step world event).0, text (step world event).1)) (λ fault. fault) (read line)

-- the result of a line of `stations`, `fragments` and `duplex`, and the text that closes a run
abbrev pub script_take : ScriptState → List ℕ → Result (ScriptState × List ℕ) LineFault
script_take (StationsAt world) = taken_by StationsAt event_of world_step step_line world
script_take (LongAt world) = taken_by LongAt long_event_of long_step long_step_text_of world
script_take (DuplexAt world) = taken_by DuplexAt duplex_event_of duplex_step duplex_step_line world

abbrev pub script_closing : ScriptState → List ℕ
script_closing (StationsAt world) = closing_line world
script_closing (LongAt world) = long_closing_line world
script_closing (DuplexAt world) = duplex_closing_lines world

-- the machine of the three scripts: the text that closes the run comes at the end, and an allocation for a step may fail
abbrev pub script_rules : LineRules ScriptState
script_rules = record { take = script_take; closing = script_closing; wants = true }
