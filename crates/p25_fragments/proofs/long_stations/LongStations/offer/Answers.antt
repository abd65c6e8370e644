use Rattle.std.proofs.Common.{ap, ◌∙◌, arith}
use Rattle.p25_delivery.proofs.HalfLaws.{call-state, call-answer}
use Rattle.p25_fragments.specs.{declared.long_step.LongStep.{LongStep}, Inside.{state_of}, LongState.{LongParts}, LongSteps.{started}}
use Rattle.p25_fragments.proofs.OfferLaws.{down-offer, busy-offer, taken-offer}
use Rattle.p25_fragments.proofs.long_stations.LongStations.offer.Goals as goal

pub returns-in-OfferDown-clause-step : goal.returns-in-OfferDown-clause-step
returns-in-OfferDown-clause-step c =
    let began = ap (λ (p : LongParts). p.state) c.self.view_is in
    let told = c.step_ready-step.ensures in
    cc (down-offer _ _ _ _ _ _ began c.part.ensures (call-state _ told.step) (call-answer _ told.step) c.in-OfferDown.is)

pub returns-in-Busy-clause-step : goal.returns-in-Busy-clause-step
returns-in-Busy-clause-step c =
    let began = ap (λ (p : LongParts). p.state) c.self.view_is in
    let told = c.step_ready-step.ensures in
    cc (busy-offer _ _ _ _ _ _ began c.part.ensures (call-state _ told.step) (call-answer _ told.step) c.in-Busy.is)

pub returns-in_default : goal.returns-in_default
unfolding started
returns-in_default c =
    let began = ap (λ (p : LongParts). p.state) c.self.view_is in
    let told = c.step_ready-step.ensures in
    let room = c.start.ensures.room in
    record {
      step = c.start.ensures.step ∙ taken-offer _ (state_of c.self.inside) _ _ _ _ began c.part.ensures
          (call-state _ told.step) (call-answer _ told.step) c.in_default.not-OfferDown c.in_default.not-Busy;
      spare = omega (arith, ap (λ (p : LongParts). p.spare) c.self.view_is, told.spare, room.inner, room.own, room.spare);
    }
