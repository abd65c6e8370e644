use Rattle.std.proofs.Common.{◌≡◌, ℕ, List, ◌∷◌, ap, sym, subst, ◌∙◌}
use Rattle.p25_stations.specs.{declared.step.Event.TheVariants.{ToReceiver, ToSender}, declared.step.Step.{Step}, WorldState.{WorldState}, Steps.{world_step}, Runs.{steps_of, world_run}}
use Rattle.p25_example_exchange.specs.Exchanges.{events_of}
use Rattle.p25_example_exchange.proofs.RunSteps.{steps-cons, run-cons, steps-nil, run-nil}
use Rattle.p25_example_exchange.proofs.exchange.Goals as goal

pub returns-clause-steps : goal.returns-clause-steps
returns-clause-steps c =
    let heard = subst (λ (flips : List ℕ). (c.step-2.new.self.state, c.in_ok-heard.heard) ≡ world_step c.step.new.self.state (ToReceiver flips)) c.one_place.ensures c.in_ok-heard.ensures.ok in
    let answered = subst (λ (flips : List ℕ). (c.step-3.new.self.state, c.in_ok-answered.answered) ≡ world_step c.step-2.new.self.state (ToSender flips)) c.new.ensures c.in_ok-answered.ensures.ok in
    sym (ap (λ (w : WorldState). steps_of w (events_of c.args.message c.args.place)) (sym c.requires.first)
    ∙ steps-cons _ _ _ _ _ c.in_ok-offered.ensures.ok
    ∙ ap (λ (xs : List Step). c.in_ok-offered.offered ∷ xs) (steps-cons _ _ _ _ _ heard
    ∙ ap (λ (xs : List Step). c.in_ok-heard.heard ∷ xs) (steps-cons _ _ _ _ _ answered
    ∙ ap (λ (xs : List Step). c.in_ok-answered.answered ∷ xs) (steps-nil c.step-3.new.self.state))))

pub returns-clause-world : goal.returns-clause-world
returns-clause-world c =
    let heard = subst (λ (flips : List ℕ). (c.step-2.new.self.state, c.in_ok-heard.heard) ≡ world_step c.step.new.self.state (ToReceiver flips)) c.one_place.ensures c.in_ok-heard.ensures.ok in
    let answered = subst (λ (flips : List ℕ). (c.step-3.new.self.state, c.in_ok-answered.answered) ≡ world_step c.step-2.new.self.state (ToSender flips)) c.new.ensures c.in_ok-answered.ensures.ok in
    sym (ap (λ (w : WorldState). world_run w (events_of c.args.message c.args.place)) (sym c.requires.first)
    ∙ run-cons _ _ _ _ _ c.in_ok-offered.ensures.ok ∙ run-cons _ _ _ _ _ heard ∙ run-cons _ _ _ _ _ answered ∙ run-nil c.step-3.new.self.state)
