-- A step of the inner world without a meaning for the long messages. By its type.
use Rattle.std.proofs.Common.{◌≡◌, ℕ, List, refl}
use Rattle.p25_messages.specs.{declared.step_kind.StepKind.{StepKind}, declared.step_kind.StepKind.TheVariants.{Acknowledged, Delivered, SynHeard}}
use Rattle.p25_fragments.specs.{declared.long_step.Then.TheVariants.{Plain}, LongState.{LongState}, LongSteps.{after_kind}}

pub other_kind : (kind : StepKind) (w : LongState) → ((number : ℕ) → kind ≡ Acknowledged number → ⊥)
    → ((number : ℕ) (message : List ℕ) → kind ≡ Delivered number message → ⊥) → ((number : ℕ) → kind ≡ SynHeard number → ⊥) →
    after_kind kind w ≡ (w, Plain)
unfolding after_kind
other_kind (Acknowledged number) w a d s = absurd (a number refl)
other_kind (Delivered number message) w a d s = absurd (d number message refl)
other_kind (SynHeard number) w a d s = absurd (s number refl)
other_kind other w a d s = refl
