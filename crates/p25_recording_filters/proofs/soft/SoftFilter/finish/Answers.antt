use Rattle.std.proofs.Common.{◌≡◌, ◌+◌, ◌^◌, ◌<◌, false, [], length, refl, ap, subst, sym, ◌∙◌, arith}
use Rattle.p25_stream.specs.Scan.{Scan, given}
use Rattle.p25_filter.specs.Futures.{IsClosed}
use Rattle.p25_recording_filters.specs.Softs.{SoftParts, first_level, soft_future}
use Rattle.p25_recording_filters.proofs.SoftRecordingsLaws.{holding-finish, holding-push, room-held, step-finish}
use Rattle.p25_recording_filters.proofs.soft.SoftFilter.finish.Goals as goal

pub fill-requires-clause-drained : goal.fill-requires-clause-drained
fill-requires-clause-drained c = subst (λ (r : SoftParts). given r.scan ≡ []) (sym c.self.view_is) c.requires.drained

pub fill-requires-clause-going : goal.fill-requires-clause-going
fill-requires-clause-going c = subst (λ (r : SoftParts). r.scan.finished ≡ false) (sym c.self.view_is) c.requires.going

pub fill-requires-clause-room : goal.fill-requires-clause-room
fill-requires-clause-room c = room-held c.self.inside.scanner c.self.inside.levels c.held.result c.self.invariant.0 c.held.ensures.value c.held.ensures.most

pub fill-requires-clause-few : goal.fill-requires-clause-few
fill-requires-clause-few c = omega (arith, c.held.ensures.value, c.held.ensures.most, c.self.invariant.2)

pub invariant_of-self : goal.invariant_of-self
invariant_of-self c =
    let s = c.self.inside in
    let few : first_level s.scanner.place + length s.levels < 2 ^ 28 = subst (λ (r : SoftParts). first_level r.scan.place + length r.levels < 2 ^ 28) (sym c.self.view_is) c.requires.few in
    let place = ap (λ (t : Scan). t.place) c.finish.ensures in (
      holding-finish c.fill.new.scanner c.finish.new.self c.fill.new.levels (holding-push s.scanner c.fill.new.scanner s.levels c.fill.new.levels c.self.invariant.0 c.fill.ensures.place c.fill.ensures.holding)
          c.fill.ensures.full c.finish.ensures,
      c.self.invariant.1,
      omega (arith, few, place, c.fill.ensures.place, c.fill.ensures.few),
    )

pub returns-clause-closed : goal.returns-clause-closed
returns-clause-closed c =
    let s = c.self.inside in
    let before : SoftParts = record { scan = s.scanner; levels = s.levels; kept = s.kept } in
    let next : SoftParts = record { scan = c.finish.new.self; levels = c.fill.new.levels; kept = s.kept } in
    let going = subst (λ (r : SoftParts). r.scan.finished ≡ false) (sym c.self.view_is) c.requires.going in
    subst (λ (r : SoftParts). IsClosed (soft_future r) (soft_future next)) c.self.view_is
    (step-finish before next going (ap (λ (t : Scan). t.finished) c.finish.ensures) (ap (λ (t : Scan). t.place) c.finish.ensures ∙ c.fill.ensures.place) c.fill.ensures.list refl)
