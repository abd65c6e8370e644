use Rattle.std.proofs.{Common.{◌≡◌, ◌++◌, ℕ, List, Option, Result, Ok, Err, ap, ap₂, sym, subst, ◌∙◌}, KnownBytes.{Appends-trans}}
use Rattle.std.specs.{Prelude.{OnOk}, Io.KnownBytes.{Appends}}
use Rattle.p25_stations.specs.{Runs.{steps_of, world_run}, WorldState.{WorldState, first_world}, declared.step.Step.{Step}}
use Rattle.p25_example_exchange.specs.Exchanges.{counts_text, events_of, exchange_text, steps_text}
use Rattle.p25_example_exchange.proofs.print_exchange.Goals as goal

-- the lines of the steps, and then the counts if the lines were written without a fault
text-by : {E : Type 0} (result : Result (Unit {0}) E) (first before now : Option (List ℕ)) (message octets : List ℕ) (steps : List Step) (world : WorldState) → message ≡ octets
    → steps ≡ steps_of first_world (events_of message 400) → world ≡ world_run first_world (events_of message 400)
    → Appends first before (steps_text steps) → OnOk result (Appends before now (counts_text world)) → OnOk result (Appends first now (exchange_text (events_of octets 400)))
text-by (Ok done) first before now message octets steps world same steps_are world_is told counts =
    let all : steps_text steps ++ counts_text world ≡ exchange_text (events_of octets 400)
    = ap₂ (λ (some : List Step) (last : WorldState). steps_text some ++ counts_text last) steps_are world_is
    ∙ ap (λ (text : List ℕ). exchange_text (events_of text 400)) same in
    subst (λ (text : List ℕ). Appends first now text) all (Appends-trans first before now (steps_text steps) (counts_text world) told counts)
text-by (Err fault) first before now message octets steps world same steps_are world_is told counts = tt

pub returns : goal.returns
returns g c =
    text-by c.print_counts.result _ _ _ c.in-Some.message _ c.in_ok-steps.steps _ c.in-Some.ensures.message c.in_ok-steps.ensures.steps c.in_ok-steps.ensures.world
    c.in_ok-print_steps.ensures c.print_counts.ensures
