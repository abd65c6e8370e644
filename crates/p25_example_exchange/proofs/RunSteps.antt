-- A run step by step: the first event makes a world and a step, and the run goes on from there.
use Rattle.std.proofs.Common.{◌≡◌, List, [], ◌∷◌, refl, ap, sym}
use Rattle.p25_delivery.specs.Runs.{run_by, steps_by}
use Rattle.p25_stations.specs.{declared.step.Event.{Event}, declared.step.Step.{Step}, WorldState.{WorldState}, Steps.{world_step}, Runs.{steps_of, world_run}}

pub steps-cons : (w now : WorldState) (event : Event) (step : Step) (events : List Event) → (now, step) ≡ world_step w event → steps_of w (event ∷ events) ≡ step ∷ steps_of now events
unfolding steps_by
steps-cons w now event step events same = ap (λ (p : WorldState × Step). p.1 ∷ steps_of p.0 events) (sym same)

pub run-cons : (w now : WorldState) (event : Event) (step : Step) (events : List Event) → (now, step) ≡ world_step w event → world_run w (event ∷ events) ≡ world_run now events
unfolding run_by
run-cons w now event step events same = ap (λ (p : WorldState × Step). world_run p.0 events) (sym same)

pub steps-nil : (w : WorldState) → steps_of w [] ≡ []
unfolding steps_by
steps-nil w = refl

pub run-nil : (w : WorldState) → world_run w [] ≡ w
unfolding run_by
run-nil w = refl
