use Rattle.std.proofs.Common.{◌+◌, ◌-◌, ◌*◌, ◌≤◌, arith}
use Rattle.p25_stream.specs.Items.{sync_place}
use Rattle.p25_stream.proofs.JudgingSteps.{places-free}
use Rattle.p25_stream.proofs.judging.none_of_many.Goals as goal

pub loop-k-preserved : goal.loop-k-preserved
loop-k-preserved c =
    let at = c.args.from + 16 * c.loop-k.k in
    omega (arith, places-free c.args.held.now at 16 16 c.field.result (omega arith) (omega arith) c.field.ensures.value c.loop-k.invariant (c.none_of_sixteen.ensures c.if-not-none_of_sixteen.false))

pub returns : goal.returns
returns c = λ none.
    let at = c.args.from + 8 * (c.args.count - 1) in
    let before : at ≤ sync_place c.args.held.now = omega (arith, c.loop-k.invariant, c.loop-k-test.false, c.if-count-eq0.false) in
    omega (arith, places-free c.args.held.now at 8 8 c.field-2.result (omega arith) (omega arith) c.field-2.ensures.value before (c.none_of_eight.ensures none))
