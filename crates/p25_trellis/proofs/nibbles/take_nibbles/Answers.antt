use Rattle.std.proofs.{Common.{◌++◌, ℕ, List, drop, ap₂, sym, ◌∙◌, arith}, Math.Nat.{add-zero}}
use Rattle.p25_trellis.specs.Interleave.{interleaved}
use Rattle.p25_trellis.proofs.NibbleSteps.{fourths_read, numbers_from-fourths}
use Rattle.p25_trellis.proofs.nibbles.take_nibbles.Goals as goal

pub returns-clause-sent : goal.returns-clause-sent
unfolding interleaved
returns-clause-sent c =
    let put_fourths_4 = c.put_fourths-4.ensures in
    let put_fourths_3 = c.put_fourths-3.ensures in
    let bits = c.args.bits.now in
    let at = c.args.at in
    let join : List ℕ → List ℕ → List ℕ = λ xs ys. xs ++ ys in
    ap₂ join (ap₂ join (ap₂ join (put_fourths_4.others 0 (omega arith) (omega arith)
    ∙ put_fourths_3.others 0 (omega arith) (omega arith)
    ∙ c.put_fourths-2.ensures.others 0 (omega arith) (omega arith)
    ∙ fourths_read bits at 0 13 c.field.result _ (omega arith) c.requires (cc (c.field.ensures.value, add-zero at)) c.put_fourths.ensures.set) (put_fourths_4.others 1 (omega arith) (omega arith)
    ∙ put_fourths_3.others 1 (omega arith) (omega arith)
    ∙ fourths_read bits at 52 12 c.field-2.result _ (omega arith) c.requires c.field-2.ensures.value c.put_fourths-2.ensures.set)) (put_fourths_4.others 2 (omega arith) (omega arith)
    ∙ fourths_read bits at 100 12 c.field-3.result _ (omega arith) c.requires c.field-3.ensures.value put_fourths_3.set))
    (fourths_read bits at 148 12 c.field-4.result _ (omega arith) c.requires c.field-4.ensures.value put_fourths_4.set) ∙ sym (numbers_from-fourths (drop at bits))
