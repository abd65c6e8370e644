use Rattle.std.proofs.Common.{length, Some, refl, ap, sym, ◌∙◌, arith}
use Rattle.p25_stations.proofs.{AirLoopLaws.{with_flips-none, with_flips-more, flipped-past}, air.invert.Goals.{then-place-len, else-place-len}}
use Rattle.p25_stations.proofs.air.invert.Goals as goal

pub loop-i-init : goal.loop-i-init
loop-i-init c = record { bits = sym (with_flips-none c.args.bits.now); len = refl }

pub loop-i-preserved : goal.loop-i-preserved
loop-i-preserved c =
    let flips = c.args.flips.now in
    let place = c.from-place.result in
    let here = c.get.ensures.place ∙ ap Some (sym c.from-place.ensures) in
    let more = with_flips-more c.args.bits.now c.loop-i.bits flips c.loop-i.i place here (omega (arith, c.len-i-end.ensures.value)) c.loop-i.invariant.bits in
    elim c.if-place-len.branch [
      | then-place-len h ↦ record { bits = cc; len = cc }
      | else-place-len h ↦
          (let past = flipped-past c.loop-i.bits place (omega (arith, h.if-place-len.false, c.len.ensures.value)) in
          record { bits = cc; len = cc })
    ]
