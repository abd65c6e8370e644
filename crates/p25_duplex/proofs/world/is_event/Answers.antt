use Rattle.std.proofs.Common.{◌≡◌, ℕ, List, subst}
use Rattle.p25_delivery.specs.SoundHalves.{IsMessage}
use Rattle.p25_duplex.specs.{declared.side.Side.{Side}, declared.event.DuplexEvent.TheVariants.{Send}}
use Rattle.p25_duplex.proofs.DuplexHistoryLaws.{event-kept}
use Rattle.p25_duplex.proofs.world.is_event.Goals as goal

pub returns-in-Send : goal.returns-in-Send
returns-in-Send c =
    event-kept c.args.event.now (λ (side : Side) (message : List ℕ) (is : c.args.event.now ≡ Send side message).
    let same : c.in-Send.message ≡ message = cc in subst IsMessage same c.message_fits.ensures)

pub returns-in_default : goal.returns-in_default
returns-in_default c =
    event-kept c.args.event.now (λ (side : Side) (message : List ℕ) (is : c.args.event.now ≡ Send side message). absurd (c.in_default.not-Send side message is))
