-- The effect of each event on the world of long messages, and its step.
use Rattle.std.specs.Prelude.{ℕ, ◌+◌, nat_lt, List, [], ◌∷◌, ◌++◌, length, Option, Some, None, if◌then◌else◌}
use Rattle.p25_messages.specs.{LongMessages.{part_count, part_of}, declared.step_kind.StepKind.{StepKind, TheVariants.{Acknowledged, Delivered, SynHeard}}}
use Rattle.p25_delivery.specs.{declared.sender.Outstanding.{Outstanding, TheVariants.{Nothing}}, Delivery.{present_mark}}
use Rattle.p25_stations.specs.{declared.step.Event.TheVariants.{Send}, declared.step.Step.{Step}, Steps.{world_step, WorldState}}
pub use Rattle.p25_fragments.specs.declared.long_step.LongEvent.{LongEvent, TheVariants.{Long, Inner}}
pub use Rattle.p25_fragments.specs.declared.long_step.Then.{Then, TheVariants.{Plain, Started, Busy, Down, Part, Whole, Refused, Next, Finished}}
pub use Rattle.p25_fragments.specs.declared.long_step.LongStep.{LongStep}
use Rattle.p25_fragments.specs.Joining.{Joining, first_joining, message_taken, Joined, Whole as JoinedWhole, Part as JoinedPart, Refused as JoinedRefused}
use Rattle.p25_fragments.specs.LongState.{LongState, long_delivery, OutstandingPart}

-- a step in which nothing changes
abbrev pub unmoved : LongState → Then → LongState × LongStep
unmoved w told = (w, record { first = None; then = told })

-- a step that begins with a step of the inner world
abbrev pub with_first : Step → LongState × Then → LongState × LongStep
with_first step (w, told) = (w, record { first = Some step; then = told })

-- the long message is taken, and its part 0 was offered
unfoldable pub started : LongState → List ℕ → WorldState × Step → LongState × LongStep
started w message (inner, step) =
    with_first step (
      record w { inner = inner; taken = w.taken ++ message ∷ []; outstanding = Some (record { message = message; number = 0 }) },
      Started (part_count (length message)),
    )

-- a long message is offered to a sender that is not down: it is Busy while a part, or the opening packet, is outstanding
unfoldable pub long_offered_beside : Outstanding → LongState → List ℕ → LongState × LongStep
long_offered_beside Nothing w message = started w message (world_step w.inner (Send (part_of message 0)))
long_offered_beside other w message = unmoved w Busy

-- a long message is offered: whether the sender is down is tested first
unfoldable pub long_offered : LongState → List ℕ → LongState × LongStep
long_offered w message =
    let sender = w.inner.delivery.outbound.sender in
    if sender.down then unmoved w Down else long_offered_beside sender.outstanding w message

-- the next part was offered
unfoldable pub next_offered : LongState → OutstandingPart → WorldState × Step → LongState × Then
next_offered w next (inner, step) = (record w { inner = inner; outstanding = Some next }, Next step)

-- the outstanding part was acknowledged: the next one is offered, or the long message is acknowledged with its last
unfoldable pub after_acknowledged : Option OutstandingPart → LongState → LongState × Then
after_acknowledged None w = (w, Plain)
after_acknowledged (Some sent) w =
    if nat_lt (sent.number + 1) (part_count (length sent.message))
    then next_offered w (record sent { number = sent.number + 1 }) (world_step w.inner (Send (part_of sent.message (sent.number + 1))))
    else (record w { outstanding = None; acknowledged = w.acknowledged + 1 }, Finished)

-- a message was delivered: by its result for the joiner, and a long message that is whole with it is kept
unfoldable pub after_delivered : LongState → Joining × Joined → LongState × Then
after_delivered w (j, JoinedWhole message) = (record w { joining = j; whole = w.whole ++ message ∷ [] }, Whole message)
after_delivered w (j, JoinedPart number) = (record w { joining = j }, Part number)
after_delivered w (j, JoinedRefused) = (record w { joining = j }, Refused)

-- the meaning of a step of the inner world: an acknowledgement is one of the outstanding part, a delivered message is passed to the joiner, and the
-- joiner is reset when the opening packet is received
unfoldable pub after_kind : StepKind → LongState → LongState × Then
after_kind (Acknowledged number) w = after_acknowledged w.outstanding w
after_kind (Delivered number message) w = after_delivered w (message_taken w.joining message)
after_kind (SynHeard number) w = (record w { joining = first_joining }, Plain)
after_kind other w = (w, Plain)

-- a session of the inner world has ended: the outstanding long message is given up with its part
abbrev pub session_ended : LongState → LongState × Then
session_ended w = (record w { outstanding = None; marks = w.marks ++ present_mark (long_delivery w) ∷ [] }, Plain)

-- an event happened in the inner world, and a session has ended if it has more marks than before
unfoldable pub inner_happened : LongState → WorldState × Step → LongState × LongStep
inner_happened w (inner, step) =
    let now : LongState = record w { inner = inner } in
    let has_ended = nat_lt (length w.inner.delivery.outbound.marks) (length inner.delivery.outbound.marks) in
    with_first step (if has_ended then session_ended now else after_kind step.kind now)

-- the effect of an event on the world of long messages, and its step
unfoldable pub long_step : LongState → LongEvent → LongState × LongStep
long_step w (Long message) = long_offered w message
long_step w (Inner event) = inner_happened w (world_step w.inner event)
