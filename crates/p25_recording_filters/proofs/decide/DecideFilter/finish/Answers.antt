use Rattle.std.proofs.Common.{◌≡◌, ◌+◌, ◌^◌, ◌<◌, false, [], length, ap, subst, sym, ◌∙◌, arith}
use Rattle.p25_stream.specs.Scan.{Scan, given}
use Rattle.p25_filter.specs.Futures.{IsClosed}
use Rattle.p25_recording_filters.specs.{declared.recording.Phase.TheVariants.{Ended}, Decides.{DecideParts, decide_future, first_held}, Recordings.{has_ended}}
use Rattle.p25_recording_filters.proofs.DecideRecordingsLaws.{deciding, deciding-done, deciding-push, drained-room, step-finish}
use Rattle.p25_recording_filters.proofs.decide.DecideFilter.finish.Goals as goal

pub fill-requires-clause-room : goal.fill-requires-clause-room
fill-requires-clause-room c =
    let s = c.self.inside in
    let going = c.self.invariant.3 ∙ subst (λ (r : DecideParts). has_ended r.phase ≡ false) (sym c.self.view_is) c.requires.going in
    let none = subst (λ (r : DecideParts). given r.scan ≡ []) (sym c.self.view_is) c.requires.drained.0 in
    (drained-room c.item_laws.ensures.recursion c.item_laws.ensures.enough s.scanner s.decider s.levels c.self.invariant.0 going none (omega (arith, c.kept.ensures.value, c.kept.ensures.few))).0

pub fill-requires-clause-few : goal.fill-requires-clause-few
fill-requires-clause-few c =
    let s = c.self.inside in
    let going = c.self.invariant.3 ∙ subst (λ (r : DecideParts). has_ended r.phase ≡ false) (sym c.self.view_is) c.requires.going in
    let none = subst (λ (r : DecideParts). given r.scan ≡ []) (sym c.self.view_is) c.requires.drained.0 in
    let room = drained-room c.item_laws.ensures.recursion c.item_laws.ensures.enough s.scanner s.decider s.levels c.self.invariant.0 going none (omega (arith, c.kept.ensures.value, c.kept.ensures.few)) in
    omega (arith, room.1, room.2)

pub invariant_of-self : goal.invariant_of-self
invariant_of-self c =
    let s = c.self.inside in
    let size : first_held s.scanner.place s.decider + length s.levels < 2 ^ 28
    = subst (λ (r : DecideParts). first_held r.scan.place r.follow + length r.levels < 2 ^ 28) (sym c.self.view_is) c.requires.few in
    let filled = deciding-push s.scanner c.fill.new.scanner s.decider s.levels c.fill.new.levels c.self.invariant.0 c.fill.ensures.place c.fill.ensures.holding (omega (arith, size, c.fill.ensures.few)) in (
      deciding-done c.fill.new.scanner c.finish.new.self s.decider c.fill.new.levels filled c.fill.ensures.full c.finish.ensures,
      c.self.invariant.1,
      c.self.invariant.2 ∙ sym c.fill.ensures.place ∙ sym (ap (λ (t : Scan). t.place) c.finish.ensures),
      ap (λ (t : Scan). t.finished) c.finish.ensures,
      λ is. absurd (cc),
    )

pub returns-clause-closed : goal.returns-clause-closed
returns-clause-closed c =
    let s = c.self.inside in
    let going = subst (λ (r : DecideParts). has_ended r.phase ≡ false) (sym c.self.view_is) c.requires.going in
    subst (λ (r : DecideParts). IsClosed (decide_future r) (decide_future (deciding c.finish.new.self s.decider c.fill.new.levels s.kept Ended))) c.self.view_is
    (step-finish s.scanner c.finish.new.self s.decider s.levels c.fill.new.levels s.kept s.phase going (ap (λ (t : Scan). t.place) c.finish.ensures ∙ c.fill.ensures.place) c.fill.ensures.list)
