use Rattle.std.proofs.Common.{◌||◌, Bool, length, drop, nat_le, ap, sym, ◌∙◌, arith, length-drop}
use Rattle.std.proofs.lemmas.Bool.{le-leb, lt-leb}
use Rattle.p25_follow.specs.Expected.{name_of, names_of}
use Rattle.p25_decide.proofs.StretchSteps.{kind-goes, kind-waits}
use Rattle.p25_decide.proofs.stretch.settled_kind.Goals as goal

pub returns-then-whole : goal.returns-then-whole
returns-then-whole c =
    let rest = drop c.args.at c.args.stretch.now in
    c.step.ensures.value
    ∙ sym (kind-goes c.args.whole (name_of c.args.before.now) rest (names_of c.args.end.now) (ap (λ (b : Bool). b || nat_le 6912 (length rest)) c.if-whole.true))

pub returns-then-len-at-lt-STEP_REACH : goal.returns-then-len-at-lt-STEP_REACH
returns-then-len-at-lt-STEP_REACH c =
    let rest = drop c.args.at c.args.stretch.now in
    let long = length-drop c.args.at c.args.stretch.now in
    sym (kind-waits c.args.whole (name_of c.args.before.now) rest (names_of c.args.end.now)
    (ap (λ (b : Bool). b || nat_le 6912 (length rest)) c.if-whole.false ∙ lt-leb 6912 (length rest) (omega (arith, long, c.len.ensures.value, c.if-len-at-lt-STEP_REACH.true))))

pub returns : goal.returns
returns c =
    let rest = drop c.args.at c.args.stretch.now in
    let long = length-drop c.args.at c.args.stretch.now in
    c.step-2.ensures.value
    ∙ sym (kind-goes c.args.whole (name_of c.args.before.now) rest (names_of c.args.end.now)
    (ap (λ (b : Bool). b || nat_le 6912 (length rest)) c.if-whole.false ∙ le-leb 6912 (length rest) (omega (arith, long, c.len.ensures.value, c.if-len-at-lt-STEP_REACH.false))))
