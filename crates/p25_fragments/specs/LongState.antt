-- The state of the world of long messages.
use Rattle.std.specs.Prelude.{◌≡◌, ℕ, Bool, ◌+◌, ◌/◌, ◌<◌, ◌≤◌, min, List, [], length, Option, Some, None, IfSome}
use Rattle.p25_messages.specs.LongMessages.{part_count}
use Rattle.p25_delivery.specs.{declared.outbound.Mark.{Mark}, Halves.{first_outgoing, first_incoming}, Delivery.{Delivery, first_delivery}}
use Rattle.p25_stations.specs.WorldState.{WorldState, first_world}
pub use Rattle.p25_fragments.specs.declared.long_stations.OutstandingPart.{OutstandingPart}
use Rattle.p25_fragments.specs.Joining.{Joining, first_joining}

-- the world of the two stations; the long message with an outstanding part, and the number of that part; the state of the joiner; the long messages
-- taken, those that were received whole, the number of acknowledged ones, and a mark for each session that has ended
pub record LongState : Type 0 where
  pub inner : WorldState
  pub outstanding : Option OutstandingPart
  pub joining : Joining
  pub taken : List (List ℕ)
  pub whole : List (List ℕ)
  pub acknowledged : ℕ
  pub marks : List Mark

-- such a world as contracts see it: its state, the number of steps for which it has capacity, and whether a message was offered to the inner world
-- besides the parts
pub record LongView : Type 0 where
  pub state : LongState
  pub spare : ℕ
  pub beside : Bool

-- such a world as the contracts of private calls see it: also with the numbers of steps of the inner world, and of long messages and marks, for which
-- it has capacity
pub record LongParts : Type 0 where
  pub state : LongState
  pub spare : ℕ
  pub inner_spare : ℕ
  pub own_spare : ℕ

-- a private call takes the capacity of at most one of each
pub record TakesRoom (before after : LongParts) : Type 0 where
  pub inner : before.inner_spare ≤ after.inner_spare + 1
  pub own : before.own_spare ≤ after.own_spare + 1
  pub spare : after.spare ≡ min (after.inner_spare / 2) after.own_spare

-- a world before the first step
abbrev pub first_long : LongState
first_long = record { inner = first_world; outstanding = None; joining = first_joining; taken = []; whole = []; acknowledged = 0; marks = [] }

-- the long messages as those of a delivery: the messages taken are sent, and those received whole are delivered
abbrev pub long_delivery : LongState → Delivery
long_delivery w =
    record first_delivery {
      outbound = record first_outgoing { sent = w.taken; acknowledged = w.acknowledged; marks = w.marks };
      inbound = record first_incoming { received = w.whole };
    }

-- the number of outstanding long messages: one or none
abbrev pub outstanding_count : Option OutstandingPart → ℕ
outstanding_count None = 0
outstanding_count (Some sent) = 1

-- the invariant of such a world: the outstanding part is one of its message; and among the long messages taken are the acknowledged ones and the
-- outstanding one, all different
pub record IsLongState (w : LongState) : Type 0 where
  pub part : IfSome w.outstanding (λ sent. sent.number < part_count (length sent.message))
  pub counted : w.acknowledged + outstanding_count w.outstanding ≤ length w.taken
