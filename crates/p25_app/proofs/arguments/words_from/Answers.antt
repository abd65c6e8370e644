use Rattle.std.proofs.Common.{ℕ, List, map, string_bytes, ap, ap₂, sym, ◌∙◌}
use Rattle.std.specs.{Vec.Iter.{into_iter_items}, List.{fold}}
use Rattle.p25_tool.specs.Words.{added}
use Rattle.p25_app.proofs.CallSteps.{none_of}
use Rattle.p25_app.proofs.arguments.words_from.Goals as goal

pub loop-argument-init : goal.loop-argument-init
loop-argument-init c = ap₂ (λ (words left : List (List ℕ)). fold added words left) c.new-words.ensures
    (ap (λ it. map string_bytes (into_iter_items it)) c.into_iter-argument-iterator.ensures.into_iter_gives)

pub loop-argument-preserved : goal.loop-argument-preserved
loop-argument-preserved c =
    ap (λ (words : List (List ℕ)). fold added words (map string_bytes (into_iter_items c.next.new.self))) (c.add.ensures ∙ ap (added c.loop-argument.words) c.as_bytes.ensures.value)
    ∙ sym (ap (λ (items : List _). fold added c.loop-argument.words (map string_bytes items)) c.in-Some.ensures.steps.0)
    ∙ c.loop-argument.invariant

pub returns : goal.returns
returns c =
    let none = none_of _ (into_iter_items c.loop-argument.argument-iterator) c.loop-argument.argument-iterator.rest.ok.0 c.in-None.ensures.steps.0 in
    sym (ap (λ (items : List _). fold added c.loop-argument.words (map string_bytes items)) none) ∙ c.loop-argument.invariant
