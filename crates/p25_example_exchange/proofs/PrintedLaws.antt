-- Lines of steps that are printed one after the other.
use Rattle.std.proofs.{Common.{◌≡◌, ℕ, ◌+◌, ◌<◌, ◌≤◌, List, [], ◌∷◌, ◌++◌, length, take, get_or, Option, ap, sym, subst, ◌∙◌, append-nil}, KnownBytes.{Appends-nil, Appends-trans}}
use Rattle.std.proofs.{lemmas.List.{take_all, take_more}, lemmas.List.Concat.{flat_map-append}}
use Rattle.std.specs.Io.KnownBytes.{Appends}
use Rattle.p25_stations.specs.declared.step.Step.{Step}
use Rattle.p25_example_exchange.specs.Exchanges.{steps_text, told_text}

-- one step more
pub told-more : (steps : List Step) (i : ℕ) (step : Step) (first before now : Option (List ℕ)) → i < length steps
    → Appends first before (steps_text (take i steps)) → Appends before now (told_text (get_or steps i step).kind ++ 10 ∷ [])
    → Appends first now (steps_text (take (i + 1) steps))
told-more steps i step first before now inside done wrote =
    let last = get_or steps i step in
    let line = told_text last.kind ++ 10 ∷ [] in
    let same : steps_text (take i steps) ++ line ≡ steps_text (take (i + 1) steps)
    = ap (λ (xs : List ℕ). steps_text (take i steps) ++ xs) (sym (append-nil line))
    ∙ sym (flat_map-append (λ (s : Step). told_text s.kind ++ 10 ∷ []) (take i steps) (last ∷ []))
    ∙ ap steps_text (sym (take_more steps i step inside)) in
    subst (Appends first now) same (Appends-trans first before now (steps_text (take i steps)) line done wrote)
