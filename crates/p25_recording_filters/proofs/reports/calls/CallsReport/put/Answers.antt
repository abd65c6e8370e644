use Rattle.std.proofs.Common.{ap, arith}
use Rattle.p25_calls.specs.Taking.{CallerParts, behind_item}
use Rattle.p25_recording_filters.specs.Commands.{CallsParts}
use Rattle.p25_recording_filters.proofs.reports.calls.CallsReport.put.Goals as goal

pub invariant_of-self : goal.invariant_of-self
unfolding behind_item
invariant_of-self c =
    let taken = ap (λ (p : CallerParts). p.taken) c.take-call.ensures.behind in
    let before = ap (λ (r : CallsParts). r.caller.taken) c.self.view_is in
    record {
      sound = c.take-call.ensures.sound c.requires.sound c.self.invariant.sound;
      fewer = omega (arith, taken, c.put_call.ensures.one, c.self.invariant.fewer);
      few = omega (arith, taken, before, c.requires.few);
    }

pub returns-clause-counted : goal.returns-clause-counted
unfolding behind_item
returns-clause-counted c = omega (arith, ap (λ (p : CallerParts). p.taken) c.take-call.ensures.behind, ap (λ (r : CallsParts). r.caller.taken) c.self.view_is)

pub returns-clause-reached : goal.returns-clause-reached
unfolding behind_item
returns-clause-reached c = ap (λ (p : CallerParts). p.reached) c.take-call.ensures.behind
