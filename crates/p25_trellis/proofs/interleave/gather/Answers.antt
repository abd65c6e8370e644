use Rattle.std.proofs.{Common.{◌<◌, get_or, sym, ◌∙◌, arith, length-set}, lemmas.List.{ext_get_or}}
use Rattle.p25_trellis.specs.{declared.interleave.TheConstants.{SENT_ORDER}}
use Rattle.p25_trellis.proofs.InterleaveLaws.{length-interleaved, get_or-interleaved, order-lt, written_more, same_from_interleaved}
use Rattle.p25_trellis.proofs.interleave.gather.Goals as goal

pub bounds-gathered-place : goal.bounds-gathered-place
bounds-gathered-place c = order-lt c.loop-place.place c.loop-place-test.true

pub loop-place-preserved : goal.loop-place-preserved
loop-place-preserved c =
    let loop = c.loop-place in
    let place = loop.place in (
      written_more loop.gathered c.args.nibbles.now place loop.invariant.1 c.loop-place-test.true loop.invariant.0,
      length-set loop.gathered (get_or SENT_ORDER place 0) (get_or c.args.nibbles.now place 0) ∙ loop.invariant.1,
    )

pub returns-clause-sent : goal.returns-clause-sent
returns-clause-sent c =
    let loop = c.loop-place in
    let gathered = loop.gathered in
    ext_get_or 0 _ c.args.nibbles.now (length-interleaved gathered ∙ loop.invariant.1 ∙ sym c.told-nibbles)
    (λ i inside.
    let below : i < 49 = omega (arith, length-interleaved gathered) in
    get_or-interleaved gathered i loop.invariant.1 below ∙ loop.invariant.0 i (omega arith))

pub returns-clause-undone : goal.returns-clause-undone
returns-clause-undone c = λ gathered same. same_from_interleaved c.loop-place.gathered gathered (returns-clause-sent c ∙ sym same)
