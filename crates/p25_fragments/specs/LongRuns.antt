-- Runs of a world of long messages: its state and its steps after a list of events, its sessions, and the terms of the laws for the steps of the
-- inner world.
use Rattle.std.specs.Prelude.{◌≡◌, ◌≢◌, ◌≤◌, ℕ, Bool, true, false, List, [], ◌∷◌, ◌++◌, length, count_by, Option, Some, None}
use Rattle.p25_delivery.specs.{Runs.{run_by, steps_by, EachIs}, Delivery.{Session, sessions_of}}
use Rattle.p25_stations.specs.{declared.step.Event.{Event, TheVariants.{Send}}, declared.step.Step.{Step}, Runs.{world_run, steps_of, AreClean}}
pub use Rattle.p25_stations.specs.Steps.{WorldState, first_world}
pub use Rattle.p25_fragments.specs.LongState.{LongState, first_long, long_delivery}
pub use Rattle.p25_fragments.specs.LongSteps.{long_step, LongEvent, Long, Inner, Then, Refused, Next, Started, Whole, Finished, LongStep}

-- an event of the inner world that offers no message
unfoldable pub IsNoOffer : Event → Type 0
IsNoOffer (Send message) = ⊥
IsNoOffer other = Unit {0}

-- the invariant of an event: a long message has at most 4,000 octets, and no other message is offered
unfoldable pub IsLongEvent : LongEvent → Type 0
IsLongEvent (Long message) = length message ≤ 4000
IsLongEvent (Inner event) = IsNoOffer event

abbrev pub AreLongEvents : List LongEvent → Type 0
AreLongEvents events = EachIs IsLongEvent events

-- the world after a list of events, and the steps that they are
abbrev pub long_run : LongState → List LongEvent → LongState
long_run w events = run_by long_step w events

abbrev pub long_steps_of : LongState → List LongEvent → List LongStep
long_steps_of w events = steps_by long_step w events

-- whether an event offers a message to the inner world
abbrev pub offers_beside : LongEvent → Bool
offers_beside (Long message) = false
offers_beside (Inner (Send message)) = true
offers_beside (Inner event) = false

-- an event that offers no message to the inner world is one for which the laws hold
abbrev pub IsEventOf : Bool → LongEvent → Type 0
IsEventOf true event = Unit {0}
IsEventOf false event = IsLongEvent event

-- a world to which some list of events leads from the first one; if none offered a message to the inner world, the laws hold for all
pub record HasLongHistory (w : LongState) (beside : Bool) : Type 0 where
  pub events : List LongEvent
  pub kept : beside ≡ false → AreLongEvents events
  pub run : long_run first_long events ≡ w

-- the steps of the inner world in a step: that of the event or of the offer of part 0, and that of the offer of the next part
unfoldable pub first_steps : Option Step → List Step
first_steps None = []
first_steps (Some step) = step ∷ []

unfoldable pub next_steps : Then → List Step
next_steps (Next step) = step ∷ []
next_steps other = []

unfoldable pub inner_steps : List LongStep → List Step
inner_steps [] = []
inner_steps (step ∷ steps) = (first_steps step.first ++ next_steps step.then) ++ inner_steps steps

-- some events of the inner world lead to a world with these steps
pub record IsInnerRun (from to : WorldState) (inner : List Step) : Type 0 where
  pub events : List Event
  pub world : world_run from events ≡ to
  pub steps : steps_of from events ≡ inner

-- the inner run is clean if none of its steps is a false pass
abbrev pub IsCleanLongRun : List LongEvent → Type 0
IsCleanLongRun events = AreClean (inner_steps (long_steps_of first_long events))

-- in no step a part is refused
abbrev pub AreUnrefused : List LongStep → Type 0
AreUnrefused steps = EachIs (λ step. step.then ≢ Refused) steps

-- the sessions of long messages: a mark is made whenever a session of the inner world ends, so they begin together
abbrev pub long_sessions_of : LongState → List Session
long_sessions_of w = sessions_of (long_delivery w)

-- the long message that is whole with a step, and none of any other
abbrev pub whole_by : Then → List (List ℕ)
whole_by (Whole message) = message ∷ []
whole_by other = []

-- the long message of an event whose step is Started, and none of any other
abbrev pub taken_by : LongEvent → Then → List (List ℕ)
taken_by (Long message) (Started parts) = message ∷ []
taken_by event other = []

-- the long messages that are whole with the steps, in order
unfoldable pub whole_in : List LongStep → List (List ℕ)
whole_in [] = []
whole_in (step ∷ steps) = whole_by step.then ++ whole_in steps

-- the long messages of the events whose steps are Started, in order
unfoldable pub taken_in : List LongEvent → List LongStep → List (List ℕ)
taken_in [] steps = []
taken_in events [] = []
taken_in (event ∷ events) (step ∷ steps) = taken_by event step.then ++ taken_in events steps

-- whether a long message is acknowledged with a step
abbrev pub is_finished : Then → Bool
is_finished Finished = true
is_finished other = false

-- the number of the Finished steps
abbrev pub finished_in : List LongStep → ℕ
finished_in steps = count_by (λ (step : LongStep). is_finished step.then) steps
