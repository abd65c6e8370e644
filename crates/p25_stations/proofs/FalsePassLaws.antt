-- The deliveries that are false passes, and their count. By the reception.
use Rattle.std.proofs.{Common.{◌≡◌, ℕ, ◌≤◌, inl, inr, Bool, true, false, List, Option, Some, None, refl, ap, sym, ◌∙◌, arith}, lemmas.Bool.{cases_lt, false≢true}}
use Rattle.std.specs.Prelude.{IfSome}
use Rattle.p25_packet_blocks.specs.{declared.packet.Packet.{Packet}, Sendable.{IsSendable}}
use Rattle.p25_messages.specs.{declared.step_kind.Way.{Way}, declared.step_kind.Way.TheVariants.{Packets, Answers}}
use Rattle.p25_stations.specs.{declared.air.Carried.{Carried}, declared.step.Event.{Event}, declared.step.Event.TheVariants.{ToReceiver, ToSender}, declared.step.Step.{Step}}
use Rattle.p25_stations.specs.{Air.{places_within, ArrivesWithin}, WorldState.{WorldState, first_world}, Steps.{heard_of, delivery_of, counted_when, newest_by, delivered, world_step}}
use Rattle.p25_stations.specs.Runs.{world_run, IsCleanRun, IsWithin, IsTwiceDamaged}
use Rattle.p25_stations.proofs.{AirLaws.{ReadsWithin, air-within}, CountedLaws.{none-counted, none-from}, FewFlipsLaws.{few-arrive}, SoundLaws.{IsSoundDelivery}}
use Rattle.p25_stations.proofs.StepLaws.{Does, rests, does, step-does}

-- Within the correction radius.

delivered-within : ReadsWithin → (w : WorldState) (way : Way) (newest : Option Packet) (flips : List ℕ) → IfSome newest IsSendable → IfSome newest (λ packet. ArrivesWithin packet flips)
    → (delivered w way (delivery_of way newest flips)).1.false_pass ≡ false
unfolding delivered delivery_of heard_of
delivered-within reads w way None flips sendable within = refl
delivered-within reads w way (Some packet) flips sendable within = cc (air-within reads packet flips sendable within)

pub step-within : ReadsWithin → (w : WorldState) (event : Event) → IsSoundDelivery w.delivery → IsWithin w event → (world_step w event).1.false_pass ≡ false
unfolding world_step newest_by IsWithin
step-within reads w (ToReceiver flips) sound within = delivered-within reads w Packets w.delivery.packet_sent flips sound.packet_sent within
step-within reads w (ToSender flips) sound within = delivered-within reads w Answers w.delivery.answer flips sound.answer within
step-within reads w event sound within = refl

-- A false pass needs two bit errors.

twice : (packet : Packet) (flips : List ℕ) (false_pass : Bool) → (ArrivesWithin packet flips → false_pass ≡ false) → false_pass ≡ true → IsSendable packet → 2 ≤ places_within packet flips
twice packet flips false_pass clean e sendable =
    elim (cases_lt (places_within packet flips) 2) [
      | inl few ↦ absurd (false≢true (cc (clean (few-arrive packet flips sendable few))))
      | inr many ↦ omega arith
    ]

delivered-twice : ReadsWithin → (w : WorldState) (way : Way) (newest : Option Packet) (flips : List ℕ)
    → IfSome newest IsSendable → (delivered w way (delivery_of way newest flips)).1.false_pass ≡ true →
    (packet : Packet) × (newest ≡ Some packet) × (2 ≤ places_within packet flips)
unfolding delivered delivery_of
delivered-twice reads w way None flips sendable e = absurd (false≢true e)
delivered-twice reads w way (Some packet) flips sendable e = (
  packet,
  refl,
  twice packet flips (delivered w way (delivery_of way (Some packet) flips)).1.false_pass
      (λ (within : ArrivesWithin packet flips). delivered-within reads w way (Some packet) flips sendable within) e sendable,
)

pub step-twice : ReadsWithin → (w : WorldState) (event : Event) → IsSoundDelivery w.delivery → (world_step w event).1.false_pass ≡ true → IsTwiceDamaged w event
unfolding world_step newest_by IsTwiceDamaged
step-twice reads w (ToReceiver flips) sound e = delivered-twice reads w Packets w.delivery.packet_sent flips sound.packet_sent e
step-twice reads w (ToSender flips) sound e = delivered-twice reads w Answers w.delivery.answer flips sound.answer e
step-twice reads w event sound e = false≢true e

-- The count.

counts : (w : WorldState) (event : Event) (x : WorldState × Step) → Does w event x → x.0.false_passes ≡ counted_when x.1.false_pass w.false_passes
unfolding counted_when
counts w event x (rests kind quiet) = refl
counts w event x (does happening false_pass has) = refl

abbrev passes-in : WorldState → ℕ
passes-in w = w.false_passes

abbrev false-in : Step → Bool
false-in step = step.false_pass

pub step-counts : (w : WorldState) (event : Event) → (world_step w event).0.false_passes ≡ counted_when (world_step w event).1.false_pass w.false_passes
step-counts w event = counts w event (world_step w event) (step-does w event)

pub clean-from_none : (events : List Event) → (world_run first_world events).false_passes ≡ 0 → IsCleanRun events
clean-from_none events e = (none-counted world_step passes-in false-in step-counts events first_world e).1

pub none-from_clean : (events : List Event) → IsCleanRun events → (world_run first_world events).false_passes ≡ 0
none-from_clean events clean = none-from world_step passes-in false-in step-counts events first_world refl clean
