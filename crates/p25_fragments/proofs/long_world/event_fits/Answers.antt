use Rattle.std.proofs.Common.{◌≡◌, ◌≤◌, ℕ, List, length, subst, ◌∙◌}
use Rattle.p25_fragments.specs.declared.long_step.LongEvent.TheVariants.{Long}
use Rattle.p25_fragments.proofs.LongHistoryLaws.{event-kept}
use Rattle.p25_fragments.proofs.long_world.event_fits.Goals as goal

pub returns-in-Long : goal.returns-in-Long
returns-in-Long c =
    event-kept c.args.event.now (
    λ (message : List ℕ) (is : c.args.event.now ≡ Long message).
    let same : c.in-Long.message ≡ message = cc in
    rw (c.octets.ensures.octets, same) at c.octets.ensures.most
    )

pub returns-in_default : goal.returns-in_default
returns-in_default c = event-kept c.args.event.now (λ (message : List ℕ) (is : c.args.event.now ≡ Long message). absurd (c.in_default.not-Long message is))
