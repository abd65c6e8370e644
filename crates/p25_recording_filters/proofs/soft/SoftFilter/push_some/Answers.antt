use Rattle.std.proofs.{Common.{◌≡◌, ◌+◌, ◌*◌, ◌^◌, ◌<◌, false, [], length, map, take, refl, ap, subst, sym, ◌∙◌, arith, length-append}, lemmas.List.{length-map, length-take-le}}
use Rattle.p25_stream.specs.Scan.{given}
use Rattle.p25_filter.specs.Futures.{Progress}
use Rattle.p25_recording_filters.specs.{SoftLevels.{octet_level}, Softs.{SoftParts, first_level, soft_future}}
use Rattle.p25_recording_filters.proofs.SoftRecordingsLaws.{holding-push, room-held, step-push}
use Rattle.p25_recording_filters.proofs.soft.SoftFilter.push_some.Goals as goal

pub hear_some-requires-clause-drained : goal.hear_some-requires-clause-drained
hear_some-requires-clause-drained c = subst (λ (r : SoftParts). given r.scan ≡ []) (sym c.self.view_is) c.requires.drained

pub hear_some-requires-clause-going : goal.hear_some-requires-clause-going
hear_some-requires-clause-going c = subst (λ (r : SoftParts). r.scan.finished ≡ false) (sym c.self.view_is) c.requires.going

pub hear_some-requires-clause-room : goal.hear_some-requires-clause-room
hear_some-requires-clause-room c = room-held c.self.inside.scanner c.self.inside.levels c.held.result c.self.invariant.0 c.held.ensures.value c.held.ensures.most

pub invariant_of-self : goal.invariant_of-self
invariant_of-self c =
    let s = c.self.inside in
    let new = c.hear_some.new in
    let octets = c.args.octets.now in
    let size : first_level s.scanner.place + length s.levels + 8 * length octets < 2 ^ 28
    = subst (λ (r : SoftParts). first_level r.scan.place + length r.levels + 8 * length octets < 2 ^ 28) (sym c.self.view_is) c.requires.few in
    let count : length new.levels ≡ length s.levels + c.hear_some.result
    = ap length c.hear_some.ensures.list ∙ length-append s.levels (map octet_level (take c.hear_some.result octets))
    ∙ ap (λ n. length s.levels + n) (length-map (take c.hear_some.result octets) octet_level ∙ length-take-le c.hear_some.result octets c.hear_some.ensures.there) in (
      holding-push s.scanner new.scanner s.levels new.levels c.self.invariant.0 c.hear_some.ensures.place c.hear_some.ensures.holding,
      c.self.invariant.1,
      omega (arith, size, count, c.hear_some.ensures.there, c.hear_some.ensures.place),
    )

pub returns-clause-moved : goal.returns-clause-moved
returns-clause-moved c =
    let s = c.self.inside in
    let before : SoftParts = record { scan = s.scanner; levels = s.levels; kept = s.kept } in
    let next : SoftParts = record { scan = c.hear_some.new.scanner; levels = c.hear_some.new.levels; kept = s.kept } in
    let going = subst (λ (r : SoftParts). r.scan.finished ≡ false) (sym c.self.view_is) c.requires.going in
    let octets = take c.hear_some.result c.args.octets.now in
    subst (λ (r : SoftParts). Progress (soft_future r) octets [] (soft_future next)) c.self.view_is
    (step-push before next octets going c.hear_some.ensures.going c.hear_some.ensures.place c.hear_some.ensures.list refl)
