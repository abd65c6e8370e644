-- The result of a call for a script whose lines are all read.
use Rattle.std.specs.{Prelude.{◌≡◌, ℕ, ◌≤◌, ◌⊎◌, true, List, [], ◌++◌, length, map, Option, Result, Ok}, List.{flat_map}}
use Rattle.p25_io.specs.Octets.{Appended}
use Rattle.p25_line.specs.declared.fault.LineFault.{LineFault}
use Rattle.p25_delivery.specs.{Orderly.{AreOrderly, AreWhole}, Delivery.{sessions_of}}
use Rattle.p25_stations.specs.{Runs.{IsCleanRun, acknowledged_in, delivered_in, sent_in, steps_of, world_run}, WorldState.{first_world}}
use Rattle.p25_stations.specs.declared.step.Event.{Event}
use Rattle.p25_script.specs.{Script.{event_of}, LongScript.{long_event_of}, LongTexts.{long_step_text_of}, DuplexLines.{duplex_event_of}}
use Rattle.p25_fragments.specs.LongState.{first_long, long_delivery}
use Rattle.p25_fragments.specs.LongRuns.{AreUnrefused, IsCleanLongRun, finished_in, long_run, long_sessions_of, long_steps_of, taken_in, whole_in}
use Rattle.p25_fragments.specs.declared.long_step.LongEvent.{LongEvent}
use Rattle.p25_duplex.specs.{declared.side.Side.{Side}, declared.event.DuplexEvent.{DuplexEvent}, DuplexSteps.{first_duplex, delivery_at, other_side}}
use Rattle.p25_duplex.specs.DuplexRuns.{IsCleanDuplex, duplex_run, duplex_steps, side_acknowledged_in, side_heard_in, side_sent_in}
use Rattle.p25_filter.specs.{Lines.{lines_in}, Runs.{input_most}}
use Rattle.p25_tool.specs.{declared.outcome.Outcome.{Outcome}, declared.outcome.Outcome.TheVariants.{Done, Memory}}
use Rattle.p25_tool.specs.Outputs.{closing_line, duplex_closing_lines, duplex_step_line, long_closing_line, step_line}

-- an input is a script of events: it is not too long, and each of its lines decodes to the event at its position
pub record IsScript {E : Type 0} (read : List ℕ → Result E LineFault) (input : List ℕ) (events : List E) : Type 0 where
  pub short : length input ≤ input_most
  pub lines : map read (lines_in true [] input) ≡ map (λ event. Ok event) events

-- a script was run to its end and all its lines were written, or an allocation failed; if the run is clean it is orderly, and if the number of false
-- passes in its closing line is 0 it is clean; its steps determine its lists, and its sessions make them up
pub record IsRunOf {E : Type 0} (text : List E → List ℕ) (passes : List E → ℕ) (IsClean IsOrderlyRun TellsLists : List E → Type 0)
    (first last : Option (List ℕ)) (events : List E) (outcome : Outcome) : Type 0 where
  pub ended : (outcome ≡ Done) ⊎ (outcome ≡ Memory)
  pub wrote : outcome ≡ Done → Appended first (text events) last
  pub told : TellsLists events
  pub orderly : IsClean events → IsOrderlyRun events
  pub counted : passes events ≡ 0 → IsClean events

-- `stations`: the lines of a run are its steps, and the world after them. If no step is a false pass, each session is orderly: the messages delivered
-- are the first of those sent, those acknowledged were delivered, and at most one was delivered that was not acknowledged
abbrev pub IsScriptOf : List ℕ → List Event → Type 0
IsScriptOf input events = IsScript event_of input events

abbrev pub script_text : List Event → List ℕ
script_text events = flat_map step_line (steps_of first_world events) ++ closing_line (world_run first_world events)

-- the steps of a run determine its lists: the messages of the Delivered steps, in order, are those delivered, the messages of the events whose step
-- is Taken are those sent, and there are as many Acknowledged steps as messages acknowledged; and the sessions make up the lists
pub record TellsLists (events : List Event) : Type 0 where
  pub delivered : (world_run first_world events).delivery.inbound.received ≡ delivered_in (steps_of first_world events)
  pub sent : (world_run first_world events).delivery.outbound.sent ≡ sent_in events (steps_of first_world events)
  pub acknowledged : (world_run first_world events).delivery.outbound.acknowledged ≡ acknowledged_in (steps_of first_world events)
  pub sessions : AreWhole (world_run first_world events).delivery

abbrev pub HasRun : Option (List ℕ) → Option (List ℕ) → List Event → Outcome → Type 0
HasRun first last events outcome =
    IsRunOf script_text (λ events. (world_run first_world events).false_passes) IsCleanRun
    (λ events. AreOrderly (sessions_of (world_run first_world events).delivery)) TellsLists first last events outcome

-- `fragments`: if no step of the inner world is a false pass, no part is refused and each session is orderly: the whole long messages are the first
-- of those taken, those acknowledged are whole, and at most one is whole that was not acknowledged
abbrev pub IsLongScriptOf : List ℕ → List LongEvent → Type 0
IsLongScriptOf input events = IsScript long_event_of input events

abbrev pub long_script_text : List LongEvent → List ℕ
long_script_text events = flat_map long_step_text_of (long_steps_of first_long events) ++ long_closing_line (long_run first_long events)

abbrev pub IsOrderlyLongRun : List LongEvent → Type 0
IsOrderlyLongRun events = AreUnrefused (long_steps_of first_long events) × AreOrderly (long_sessions_of (long_run first_long events))

-- the messages of the Whole steps, in order, are those that were received whole, the long messages of the events whose step is Started are those
-- taken, and there are as many Finished steps as long messages acknowledged; and the sessions make up the lists
pub record TellsLongLists (events : List LongEvent) : Type 0 where
  pub whole : (long_run first_long events).whole ≡ whole_in (long_steps_of first_long events)
  pub taken : (long_run first_long events).taken ≡ taken_in events (long_steps_of first_long events)
  pub acknowledged : (long_run first_long events).acknowledged ≡ finished_in (long_steps_of first_long events)
  pub sessions : AreWhole (long_delivery (long_run first_long events))

abbrev pub HasLongRun : Option (List ℕ) → Option (List ℕ) → List LongEvent → Outcome → Type 0
HasLongRun first last events outcome =
    IsRunOf long_script_text (λ events. (long_run first_long events).inner.false_passes) IsCleanLongRun IsOrderlyLongRun TellsLongLists
    first last events outcome

-- `duplex`: if no step is a false pass, each session of each side's messages is orderly
abbrev pub IsDuplexScriptOf : List ℕ → List DuplexEvent → Type 0
IsDuplexScriptOf input events = IsScript duplex_event_of input events

abbrev pub duplex_script_text : List DuplexEvent → List ℕ
duplex_script_text events = flat_map duplex_step_line (duplex_steps first_duplex events) ++ duplex_closing_lines (duplex_run first_duplex events)

-- for a side, the messages of the Delivered steps at the other one, in order, are those delivered, the messages of its events whose step is Taken are
-- those sent, and there are as many Acknowledged steps of it as messages acknowledged; and its sessions make up the lists
pub record TellsListsOf (events : List DuplexEvent) (side : Side) : Type 0 where
  pub delivered : (delivery_at side (duplex_run first_duplex events)).inbound.received ≡ side_heard_in (other_side side) (duplex_steps first_duplex events)
  pub sent : (delivery_at side (duplex_run first_duplex events)).outbound.sent ≡ side_sent_in side events (duplex_steps first_duplex events)
  pub acknowledged : (delivery_at side (duplex_run first_duplex events)).outbound.acknowledged
      ≡ side_acknowledged_in side (duplex_steps first_duplex events)
  pub sessions : AreWhole (delivery_at side (duplex_run first_duplex events))

abbrev pub HasDuplexRun : Option (List ℕ) → Option (List ℕ) → List DuplexEvent → Outcome → Type 0
HasDuplexRun first last events outcome =
    IsRunOf duplex_script_text (λ events. (duplex_run first_duplex events).false_passes) IsCleanDuplex
    (λ events. (side : Side) → AreOrderly (sessions_of (delivery_at side (duplex_run first_duplex events))))
    (λ events. (side : Side) → TellsListsOf events side) first last events outcome
