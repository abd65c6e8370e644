use Rattle.std.proofs.Common.{◌≡◌, Bool, length, ◌&&◌, ◌+◌, drop, ap, sym, ◌∙◌, arith}
use Rattle.p25_stations.specs.Air.{are_true_slots}
use Rattle.p25_stations.proofs.AirLoopLaws.{are_true_slots-lengths, are_true_slots-step}
use Rattle.p25_stations.proofs.truth.are_true_slots.Goals as goal

pub returns-then-len : goal.returns-then-len
returns-then-len c = sym (are_true_slots-lengths c.args.sent.now c.args.heard.now (λ e. omega (arith, e, c.len.ensures.value, c.len-2.ensures.value)))

pub returns-then-not-is_true_slot : goal.returns-then-not-is_true_slot
returns-then-not-is_true_slot c =
    let sent = c.args.sent.now in
    let heard = c.args.heard.now in
    let i = c.loop-i.i in
    let long : length sent ≡ length heard = omega (arith, c.len.ensures.value, c.len-2.ensures.value, c.if-len.false) in
    let step = are_true_slots-step sent heard i c.get.result c.get-in-loop-i.result c.is_true_slot.result long
    (omega (arith, c.len-i-end.ensures.value)) c.get.ensures c.get-in-loop-i.ensures c.is_true_slot.ensures in
    sym (c.loop-i.invariant ∙ step ∙ ap (λ (b : Bool). b && are_true_slots (drop (i + 1) sent) (drop (i + 1) heard)) c.if-not-is_true_slot.true)

pub loop-i-preserved : goal.loop-i-preserved
loop-i-preserved c =
    let sent = c.args.sent.now in
    let heard = c.args.heard.now in
    let i = c.loop-i.i in
    let long : length sent ≡ length heard = omega (arith, c.len.ensures.value, c.len-2.ensures.value, c.if-len.false) in
    let step = are_true_slots-step sent heard i c.get.result c.get-in-loop-i.result c.is_true_slot.result long
    (omega (arith, c.len-i-end.ensures.value)) c.get.ensures c.get-in-loop-i.ensures c.is_true_slot.ensures in
    rw (c.loop-i.invariant, step, c.if-not-is_true_slot.false)
