-- Runs of the world: its state and its steps after a list of events, the condition for a clean run, and the terms of the laws for events, for the
-- messages of steps, and for the number of acknowledged ones.
use Rattle.std.specs.Prelude.{◌≡◌, false, List, ℕ, ◌+◌, ◌≤◌, [], ◌∷◌, IfSome, Some, count_by, Bool, true, ◌++◌}
use Rattle.p25_delivery.specs.{SoundHalves.{IsMessage}, Runs.{run_by, steps_by, EachIs, MeetAt}}
use Rattle.p25_stations.specs.{Steps.{world_step, Event, Send, Step, WorldState, first_world, Packet, ToReceiver, ToSender}, Air.{ArrivesWithin, places_within}}
use Rattle.p25_messages.specs.declared.step_kind.StepKind.{StepKind, TheVariants.{Taken, Resent, Reopened, Acknowledged, LinkOpened, Retry, Repeat, Delivered}}

-- the invariant of an event: a sent message has at most 2,028 octets
unfoldable pub IsEvent : Event → Type 0
IsEvent (Send message) = IsMessage message
IsEvent other = Unit {0}

abbrev pub AreEvents : List Event → Type 0
AreEvents events = EachIs IsEvent events

-- the world after a list of events, and the steps that they are
abbrev pub world_run : WorldState → List Event → WorldState
world_run w events = run_by world_step w events

abbrev pub steps_of : WorldState → List Event → List Step
steps_of w events = steps_by world_step w events

-- a world to which some list of events leads from the first one
pub record HasHistory (w : WorldState) : Type 0 where
  pub events : List Event
  pub kept : AreEvents events
  pub run : world_run first_world events ≡ w

-- a run is clean if none of its steps is a false pass
abbrev pub AreClean : List Step → Type 0
AreClean steps = EachIs (λ step. step.false_pass ≡ false) steps

abbrev pub IsCleanRun : List Event → Type 0
IsCleanRun events = AreClean (steps_of first_world events)

-- a delivery whose bits arrive within the correction radius of the transmitted ones, or any other event
unfoldable pub IsWithin : WorldState → Event → Type 0
IsWithin w (ToReceiver flips) = IfSome w.delivery.packet_sent (λ packet. ArrivesWithin packet flips)
IsWithin w (ToSender flips) = IfSome w.delivery.answer (λ packet. ArrivesWithin packet flips)
IsWithin w other = Unit {0}

-- each event of a list, at its moment
abbrev pub AreWithin : WorldState → List Event → Type 0
AreWithin w events = MeetAt world_step IsWithin w events

-- a delivery in which at least two bits are inverted
unfoldable pub IsTwiceDamaged : WorldState → Event → Type 0
IsTwiceDamaged w (ToReceiver flips) = (packet : Packet) × (w.delivery.packet_sent ≡ Some packet) × (2 ≤ places_within packet flips)
IsTwiceDamaged w (ToSender flips) = (packet : Packet) × (w.delivery.answer ≡ Some packet) × (2 ≤ places_within packet flips)
IsTwiceDamaged w other = ⊥

-- a step that is no false pass
abbrev pub true_step : StepKind → Step
true_step kind = record { kind = kind; false_pass = false }

-- the number of transmissions of the present message or opening packet after a step, by the number before it: a taken message and an opening begin a
-- count, an acknowledgement and an opened session end it, and a retransmission increases it
abbrev pub tries_after : ℕ → StepKind → ℕ
tries_after tries (Taken number blocks) = tries + 1
tries_after tries (Resent number again) = tries + 1
tries_after tries (Reopened number) = 1
tries_after tries (Acknowledged number) = 0
tries_after tries (LinkOpened number) = 0
tries_after tries (Retry number wanted again) = tries + 1
tries_after tries (Repeat number again) = tries + 1
tries_after tries kind = tries

-- the number of transmissions since the last step that ended or began a count: of all steps with a transmission, those after the last Acknowledged or
-- LinkOpened, or from the last Reopened on
unfoldable pub tries_in : ℕ → List Step → ℕ
tries_in tries [] = tries
tries_in tries (step ∷ steps) = tries_in (tries_after tries step.kind) steps

-- the message of a Delivered step, and none of any other
abbrev pub delivered_by : StepKind → List (List ℕ)
delivered_by (Delivered number message) = message ∷ []
delivered_by kind = []

-- the message of an event whose step is Taken, and none of any other
abbrev pub sent_by : Event → StepKind → List (List ℕ)
sent_by (Send message) (Taken number blocks) = message ∷ []
sent_by event kind = []

-- the messages of the Delivered steps, in order
unfoldable pub delivered_in : List Step → List (List ℕ)
delivered_in [] = []
delivered_in (step ∷ steps) = delivered_by step.kind ++ delivered_in steps

-- the messages of the events whose steps are Taken, in order
unfoldable pub sent_in : List Event → List Step → List (List ℕ)
sent_in [] steps = []
sent_in events [] = []
sent_in (event ∷ events) (step ∷ steps) = sent_by event step.kind ++ sent_in events steps

-- whether a step is Acknowledged
abbrev pub is_acknowledged : StepKind → Bool
is_acknowledged (Acknowledged number) = true
is_acknowledged kind = false

-- the number of the Acknowledged steps
abbrev pub acknowledged_in : List Step → ℕ
acknowledged_in steps = count_by (λ (step : Step). is_acknowledged step.kind) steps
