use Rattle.std.proofs.{Common.{◌≡◌, ◌+◌, ◌*◌, ◌^◌, ◌<◌, false, [], length, map, take, ap, subst, sym, ◌∙◌, arith, length-append}, lemmas.List.{length-map, length-take-le}}
use Rattle.p25_stream.specs.Scan.{given}
use Rattle.p25_filter.specs.Futures.{Progress}
use Rattle.p25_recording_filters.specs.{Decides.{DecideParts, decide_future, first_held}, Recordings.{has_ended}, SoftLevels.{octet_level}}
use Rattle.p25_recording_filters.proofs.{DecideRecordingsLaws.{deciding, deciding-push, drained-room, step-push}, RecordingsLaws.{going-open}}
use Rattle.p25_recording_filters.proofs.decide.DecideFilter.push_some.Goals as goal

pub hear_some-requires-clause-room : goal.hear_some-requires-clause-room
hear_some-requires-clause-room c =
    let s = c.self.inside in
    let going = c.self.invariant.3 ∙ subst (λ (r : DecideParts). has_ended r.phase ≡ false) (sym c.self.view_is) c.requires.going in
    let none = subst (λ (r : DecideParts). given r.scan ≡ []) (sym c.self.view_is) c.requires.drained.0 in
    (drained-room c.item_laws.ensures.recursion c.item_laws.ensures.enough s.scanner s.decider s.levels c.self.invariant.0 going none (omega (arith, c.kept.ensures.value, c.kept.ensures.few))).0

pub hear_some-requires-clause-few : goal.hear_some-requires-clause-few
hear_some-requires-clause-few c =
    let s = c.self.inside in
    let going = c.self.invariant.3 ∙ subst (λ (r : DecideParts). has_ended r.phase ≡ false) (sym c.self.view_is) c.requires.going in
    let none = subst (λ (r : DecideParts). given r.scan ≡ []) (sym c.self.view_is) c.requires.drained.0 in
    let room = drained-room c.item_laws.ensures.recursion c.item_laws.ensures.enough s.scanner s.decider s.levels c.self.invariant.0 going none (omega (arith, c.kept.ensures.value, c.kept.ensures.few)) in
    omega (arith, room.1, room.2)

pub invariant_of-self : goal.invariant_of-self
invariant_of-self c =
    let s = c.self.inside in
    let new = c.hear_some.new in
    let octets = c.args.octets.now in
    let going = subst (λ (r : DecideParts). has_ended r.phase ≡ false) (sym c.self.view_is) c.requires.going in
    let size : first_held s.scanner.place s.decider + length s.levels + 8 * length octets < 2 ^ 28
    = subst (λ (r : DecideParts). first_held r.scan.place r.follow + length r.levels + 8 * length octets < 2 ^ 28) (sym c.self.view_is) c.requires.few in
    let count : length new.levels ≡ length s.levels + c.hear_some.result
    = ap length c.hear_some.ensures.list ∙ length-append s.levels (map octet_level (take c.hear_some.result octets))
    ∙ ap (λ n. length s.levels + n) (length-map (take c.hear_some.result octets) octet_level ∙ length-take-le c.hear_some.result octets c.hear_some.ensures.there) in (
      deciding-push s.scanner new.scanner s.decider s.levels new.levels c.self.invariant.0 c.hear_some.ensures.place c.hear_some.ensures.holding
          (omega (arith, size, count, c.hear_some.ensures.there)),
      c.self.invariant.1,
      c.self.invariant.2 ∙ sym c.hear_some.ensures.place,
      c.hear_some.ensures.going ∙ sym going,
      λ is. absurd (going-open s.phase going is),
    )

pub returns-clause-moved : goal.returns-clause-moved
returns-clause-moved c =
    let s = c.self.inside in
    let new = c.hear_some.new in
    let octets = take c.hear_some.result c.args.octets.now in
    let going = subst (λ (r : DecideParts). has_ended r.phase ≡ false) (sym c.self.view_is) c.requires.going in
    subst (λ (r : DecideParts). Progress (decide_future r) octets [] (decide_future (deciding new.scanner s.decider new.levels s.kept s.phase))) c.self.view_is
    (step-push s.scanner new.scanner s.decider s.levels new.levels s.kept s.phase octets going c.hear_some.ensures.place c.hear_some.ensures.list)
