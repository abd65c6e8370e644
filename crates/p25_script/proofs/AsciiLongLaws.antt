-- The texts of steps of long messages, and of the end of a run, have octets below 128 alone. By the texts of which they are made.
use Rattle.std.proofs.Common.{◌≡◌, ℕ, ◌+◌, ◌&&◌, true, List, [], ◌∷◌, ◌++◌, length, Option, Some, None, refl, ap₂}
use Rattle.std.specs.Prelude.{codes, decimal}
use Rattle.p25_line.specs.Octets.{octets_text}
use Rattle.p25_line.proofs.AsciiLaws.{ascii-append, ascii-decimal, ascii-joined, ascii-octets_text, is_ascii}
use Rattle.p25_stations.specs.{declared.step.Step.{Step}, SessionTexts.{sessions_text}}
use Rattle.p25_script.specs.{StepTexts.{step_text_of}, LongTexts.{ended_line, first_line_of, line_before, line_behind, long_closing_text_of, long_step_text_of}}
use Rattle.p25_script.proofs.AsciiStepLaws.{ascii-sessions_text, ascii-step_text_of}
use Rattle.p25_fragments.specs.{LongState.{LongState}, declared.long_step.LongStep.{LongStep}, declared.long_step.Then.{Then}, declared.long_step.Then.TheVariants.{Started, Part, Whole, Next}}

ended : (text : List ℕ) → is_ascii text ≡ true → is_ascii (ended_line text) ≡ true
ended text low = ascii-append text (10 ∷ []) low refl

ascii-first : (first : Option Step) → is_ascii (first_line_of first) ≡ true
unfolding first_line_of
ascii-first None = refl
ascii-first (Some step) = ended (step_text_of step) (ascii-step_text_of step)

ascii-before : (then : Then) → is_ascii (line_before then) ≡ true
unfolding line_before
ascii-before (Started parts) = ended (codes "long taken parts=" ++ decimal parts) (ascii-append (codes "long taken parts=") (decimal parts) refl (ascii-decimal parts))
ascii-before then = refl

ascii-behind : (then : Then) → is_ascii (line_behind then) ≡ true
unfolding line_behind
ascii-behind (Part number) = ended (codes "part " ++ decimal number) (ascii-append (codes "part ") (decimal number) refl (ascii-decimal number))
ascii-behind (Whole message) = ended (codes "whole message=" ++ octets_text message) (ascii-append (codes "whole message=") (octets_text message) refl (ascii-octets_text message))
ascii-behind (Next step) = ended (step_text_of step) (ascii-step_text_of step)
ascii-behind then = refl

pub ascii-long_step_text_of : (step : LongStep) → is_ascii (long_step_text_of step) ≡ true
unfolding long_step_text_of
ascii-long_step_text_of step =
    ascii-joined (line_before step.then) (first_line_of step.first ∷ line_behind step.then ∷ []) (ascii-before step.then)
    (ap₂ ◌&&◌ (ascii-first step.first) (ap₂ ◌&&◌ (ascii-behind step.then) refl))

pub ascii-long_closing_text_of : (world : LongState) → is_ascii (long_closing_text_of world) ≡ true
unfolding long_closing_text_of
ascii-long_closing_text_of world =
    let sessions = length world.inner.delivery.outbound.marks + 1 in
    ascii-joined (codes "taken=")
    (decimal (length world.taken) ∷ codes " whole=" ∷ decimal (length world.whole) ∷ codes " acknowledged=" ∷ decimal world.acknowledged ∷ codes " false="
    ∷ decimal world.inner.false_passes ∷ sessions_text sessions ∷ [])
    refl
    (ap₂ ◌&&◌ (ascii-decimal (length world.taken)) (ap₂ ◌&&◌ (ascii-decimal (length world.whole)) (ap₂ ◌&&◌ (ascii-decimal world.acknowledged)
    (ap₂ ◌&&◌ (ascii-decimal world.inner.false_passes) (ap₂ ◌&&◌ (ascii-sessions_text sessions) refl)))))
