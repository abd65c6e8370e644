use Rattle.std.proofs.{Common.{get_or, set, sym, ◌∙◌, arith, length-set}, lemmas.List.{take_more_same, take-set, get_or-set_same}}
use Rattle.p25_trellis.specs.{Interleave.{interleaved}, declared.interleave.TheConstants.{SENT_ORDER}}
use Rattle.p25_trellis.proofs.InterleaveLaws.{length-interleaved, get_or-interleaved, order-lt, same_from_take}
use Rattle.p25_trellis.proofs.interleave.spread.Goals as goal

pub bounds-nibbles-place : goal.bounds-nibbles-place
bounds-nibbles-place c = order-lt c.loop-place.place c.loop-place-test.true

pub loop-place-preserved : goal.loop-place-preserved
loop-place-preserved c =
    let loop = c.loop-place in
    let place = loop.place in
    let nibbles = c.args.nibbles.now in
    let nibble = get_or nibbles (get_or SENT_ORDER place 0) 0 in (
      take_more_same (set loop.sent place nibble) (interleaved nibbles) place 0 (omega (arith, length-set loop.sent)) (omega (arith, length-interleaved nibbles))
          (take-set loop.sent place nibble ∙ loop.invariant.0)
          (get_or-set_same loop.sent place nibble 0 (omega arith) ∙ sym (get_or-interleaved nibbles place c.told-nibbles c.loop-place-test.true)),
      length-set loop.sent place nibble ∙ loop.invariant.1,
    )

pub returns-clause-sent : goal.returns-clause-sent
returns-clause-sent c =
    let loop = c.loop-place in
    same_from_take loop.place loop.sent _ (omega arith) (omega (arith, length-interleaved)) loop.invariant.0
