-- The events of an exchange, and the printed text.
use Rattle.std.specs.{Prelude.{ℕ, List, [], ◌∷◌, ◌++◌, codes, decimal, length}, List.{flat_map}}
use Rattle.p25_messages.specs.{declared.step_kind.StepKind.{StepKind}, declared.step_kind.StepKind.TheVariants.{Taken, Delivered, Acknowledged, Lost}}
use Rattle.p25_stations.specs.{Runs.{steps_of, world_run}, WorldState.{WorldState, first_world}, declared.step.Event.{Event}}
use Rattle.p25_stations.specs.{declared.step.Event.TheVariants.{Send, ToReceiver, ToSender}, declared.step.Step.{Step}}

-- a message is offered, arrives with the bit at one position inverted, and its response arrives as transmitted
abbrev pub events_of : List ℕ → ℕ → List Event
events_of message place = Send message ∷ ToReceiver (place ∷ []) ∷ ToSender [] ∷ []

-- a step, in words
abbrev pub told_text : StepKind → List ℕ
told_text (Taken number blocks) = codes "sent: packet " ++ decimal number ++ codes ", blocks " ++ decimal blocks
told_text (Delivered number message) = codes "delivered: packet " ++ decimal number ++ codes ", octets " ++ decimal (length message)
told_text (Acknowledged number) = codes "acknowledged: packet " ++ decimal number
told_text (Lost way field) = codes "lost"
told_text kind = codes "something else"

-- a line for each step
abbrev pub steps_text : List Step → List ℕ
steps_text steps = flat_map (λ step. told_text step.kind ++ 10 ∷ []) steps

-- the numbers of messages sent, delivered and acknowledged
abbrev pub counts_text : WorldState → List ℕ
counts_text world =
    codes "sent " ++ decimal (length world.delivery.outbound.sent) ++ codes ", delivered " ++ decimal (length world.delivery.inbound.received)
    ++ codes ", acknowledged " ++ decimal world.delivery.outbound.acknowledged ++ 10 ∷ []

-- the printed text of some events: the steps, and the counts of the world after them
abbrev pub exchange_text : List Event → List ℕ
exchange_text events = steps_text (steps_of first_world events) ++ counts_text (world_run first_world events)
