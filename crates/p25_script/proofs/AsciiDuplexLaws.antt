-- The texts of steps of both stations, and of the end of a run for a side, have octets below 128 alone. By the texts of which they are made.
use Rattle.std.proofs.Common.{◌≡◌, ◌+◌, ◌&&◌, true, [], ◌∷◌, length, refl, ap₂}
use Rattle.std.specs.Prelude.{codes, decimal}
use Rattle.p25_line.proofs.AsciiLaws.{ascii-decimal, ascii-joined, is_ascii}
use Rattle.p25_script.specs.StepTexts.{step_text_of, duplex_step_text_of}
use Rattle.p25_stations.specs.SessionTexts.{sessions_text}
use Rattle.p25_script.proofs.AsciiStepLaws.{ascii-sessions_text, ascii-step_text_of}
use Rattle.p25_duplex.specs.{DuplexSteps.{DuplexState, delivery_at, side_word}, declared.event.DuplexStep.{DuplexStep}, declared.side.Side.{Side}, declared.side.Side.TheVariants.{A, B}}
use Rattle.p25_duplex.specs.ClosingTexts.{duplex_closing_of}

ascii-side : (side : Side) → is_ascii (side_word side) ≡ true
ascii-side A = refl
ascii-side B = refl

pub ascii-duplex_step_text_of : (step : DuplexStep) → is_ascii (duplex_step_text_of step) ≡ true
unfolding duplex_step_text_of
ascii-duplex_step_text_of step = ascii-joined (side_word step.side) (codes " " ∷ step_text_of step.step ∷ []) (ascii-side step.side) (ap₂ ◌&&◌ (ascii-step_text_of step.step) refl)

pub ascii-duplex_closing_of : (side : Side) (d : DuplexState) → is_ascii (duplex_closing_of side d) ≡ true
unfolding duplex_closing_of
ascii-duplex_closing_of side d =
    let delivery = delivery_at side d in
    let sessions = length delivery.outbound.marks + 1 in
    ascii-joined (side_word side)
    (codes " sent=" ∷ decimal (length delivery.outbound.sent) ∷ codes " delivered=" ∷ decimal (length delivery.inbound.received) ∷ codes " acknowledged="
    ∷ decimal delivery.outbound.acknowledged ∷ sessions_text sessions ∷ [])
    (ascii-side side)
    (ap₂ ◌&&◌ (ascii-decimal (length delivery.outbound.sent)) (ap₂ ◌&&◌ (ascii-decimal (length delivery.inbound.received))
    (ap₂ ◌&&◌ (ascii-decimal delivery.outbound.acknowledged) (ap₂ ◌&&◌ (ascii-sessions_text sessions) refl))))
