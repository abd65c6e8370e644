use Rattle.std.proofs.Common.{◌≤◌, sym, arith, drop, length, length-drop}
use Rattle.p25_follow.proofs.LookLaws.{is_read-none, is_read-short, is_read-some}
use Rattle.p25_follow.proofs.told.is_read.Goals as goal

pub returns-then-len-at-lt-SENT_FRONT_LENGTH : goal.returns-then-len-at-lt-SENT_FRONT_LENGTH
returns-then-len-at-lt-SENT_FRONT_LENGTH c =
    let bits = c.args.bits.now in
    let at = c.args.at in
    sym (is_read-short (drop at bits) (omega (arith, length-drop at bits, c.len.ensures.value, c.if-len-at-lt-SENT_FRONT_LENGTH.true)))

pub returns-in-Some : goal.returns-in-Some
returns-in-Some c =
    let bits = c.args.bits.now in
    let at = c.args.at in
    let long : 114 ≤ length (drop at bits) = omega (arith, length-drop at bits, c.len.ensures.value, c.if-len-at-lt-SENT_FRONT_LENGTH.false) in
    sym (is_read-some (drop at bits) _ long (sym c.in-Some.ensures.value))

pub returns-in-None : goal.returns-in-None
returns-in-None c =
    let bits = c.args.bits.now in
    let at = c.args.at in
    let long : 114 ≤ length (drop at bits) = omega (arith, length-drop at bits, c.len.ensures.value, c.if-len-at-lt-SENT_FRONT_LENGTH.false) in
    sym (is_read-none (drop at bits) long (sym c.in-None.ensures.value))
