use Rattle.std.proofs.{Common.{◌+◌, ◌<◌, length, map, sym, ap, subst, ◌∙◌, arith}, lemmas.List.{map_push}}
use Rattle.std.specs.Option.{option_and_then}
use Rattle.p25_text.specs.{Grammar.{behind}, Names.{key_text}}
use Rattle.p25_text.proofs.ReadLaws.{SoFar, SoFar-more, SoFar-none}
use Rattle.p25_text.proofs.values.values_of_words.Goals as goal

pub returns-in_err-value_after : goal.returns-in_err-value_after
returns-in_err-value_after c =
    let inside : c.loop-i.i + 1 < length c.args.words.now = omega (arith, c.loop-i-test.true, c.requires.count) in
    c.from_residual.ensures ∙ SoFar-none c.args.keys.now c.args.words.now c.loop-i.i _ (map (λ value. value.now) c.loop-i.values.items) c.loop-i.invariant.so_far c.loop-i-test.true inside
    (c.in_err-value_after.ensures ∙ ap (option_and_then (behind (key_text _))) (sym c.get.ensures.word))

pub loop-i-preserved : goal.loop-i-preserved
loop-i-preserved c =
    let done = map (λ value. value.now) c.loop-i.values.items in
    let inside : c.loop-i.i + 1 < length c.args.words.now = omega (arith, c.loop-i-test.true, c.requires.count) in
    let more = SoFar-more c.args.keys.now c.args.words.now c.loop-i.i _ done c.in_ok-value_after.field-0.now c.loop-i.invariant.so_far c.loop-i-test.true inside
    (c.in_ok-value_after.ensures ∙ ap (option_and_then (behind (key_text _))) (sym c.get.ensures.word)) in
    let pushed = ap (map (λ value. value.now)) c.push.ensures.items ∙ map_push (λ value. value.now) c.loop-i.values.items c.in_ok-value_after.field-0 in
    record {
      so_far = subst (SoFar c.args.keys.now c.args.words.now (c.loop-i.i + 1)) (sym pushed) more;
      count = omega (arith, c.push.ensures.len, c.loop-i.invariant.count);
    }
