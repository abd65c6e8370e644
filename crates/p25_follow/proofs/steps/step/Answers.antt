use Rattle.std.proofs.{Common.{◌∙◌, ◌<◌, Bool, List, ap, sym, arith, drop, length, length-drop}, lemmas.List.{drop_all}}
use Rattle.std.specs.Option.{is_some}
use Rattle.p25_follow.specs.{Expected.{name_of, names_of}, Steps.{step_of}}
use Rattle.p25_follow.proofs.{LookSteps.{step-fit, step-sure, step-unfit, step-unsure}, StepLaws.{step_of-nil}}
use Rattle.p25_follow.proofs.steps.step.Goals as goal

pub returns-then-len-at : goal.returns-then-len-at
returns-then-len-at c =
    let bits = c.args.bits.now in
    let at = c.args.at in
    record {
      value =
          sym
          (ap (λ (xs : List Bool). step_of (name_of c.args.before.now) xs (names_of c.args.end.now)) (drop_all at bits (omega (arith, c.len.ensures.value, c.if-len-at.true)))
          ∙ step_of-nil (name_of c.args.before.now) (names_of c.args.end.now));
    }

pub returns-then-is_some : goal.returns-then-is_some
returns-then-is_some c =
    let rest = drop c.args.at c.args.bits.now in
    let some : 0 < length rest = omega (arith, length-drop c.args.at c.args.bits.now, c.len.ensures.value, c.if-len-at.false) in
    let test = ap is_some (sym c.if_fits.ensures) ∙ sym c.is_some.ensures ∙ c.if-is_some.true in
    record {
      value =
          step-fit (name_of c.args.before.now) rest (names_of c.args.end.now) c.look_at-look.result some c.look_at-look.ensures c.told_at.result c.if_fits-then-is_some.result test
          c.told_at.ensures c.if_fits-then-is_some.ensures;
    }

pub returns-then-not-is_nothing : goal.returns-then-not-is_nothing
returns-then-not-is_nothing c =
    let rest = drop c.args.at c.args.bits.now in
    let some : 0 < length rest = omega (arith, length-drop c.args.at c.args.bits.now, c.len.ensures.value, c.if-len-at.false) in
    let test = ap is_some (sym c.if_fits.ensures) ∙ sym c.is_some.ensures ∙ c.if-is_some.false in
    record {
      value =
          step-unfit (name_of c.args.before.now) rest (names_of c.args.end.now) c.look_at-look.result some c.look_at-look.ensures test (sym c.is_nothing.ensures ∙ c.if-not-is_nothing.true);
    }

pub returns-then-is_sure : goal.returns-then-is_sure
returns-then-is_sure c =
    let rest = drop c.args.at c.args.bits.now in
    let some : 0 < length rest = omega (arith, length-drop c.args.at c.args.bits.now, c.len.ensures.value, c.if-len-at.false) in
    let test = ap is_some (sym c.if_fits.ensures) ∙ sym c.is_some.ensures ∙ c.if-is_some.false in
    record {
      value =
          step-sure (name_of c.args.before.now) rest (names_of c.args.end.now) c.look_at-look.result some c.look_at-look.ensures c.next_link.result test (sym c.is_sure.ensures ∙ c.if-is_sure.true)
          c.next_link.ensures.value;
    }

pub returns-else-is_sure : goal.returns-else-is_sure
returns-else-is_sure c =
    let rest = drop c.args.at c.args.bits.now in
    let some : 0 < length rest = omega (arith, length-drop c.args.at c.args.bits.now, c.len.ensures.value, c.if-len-at.false) in
    let test = ap is_some (sym c.if_fits.ensures) ∙ sym c.is_some.ensures ∙ c.if-is_some.false in
    record {
      value = step-unsure (name_of c.args.before.now) rest (names_of c.args.end.now) c.look_at-look.result some c.look_at-look.ensures test (sym c.is_sure.ensures ∙ c.if-is_sure.false);
    }
