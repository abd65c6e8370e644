use Rattle.std.proofs.Common.{◌≤◌, ◌∙◌, true, false, refl, arith, drop, length, length-drop}
use Rattle.p25_follow.specs.{declared.told.Look.{Look}, declared.told.Told.TheVariants.{Nothing}, Expected.{name_of}}
use Rattle.p25_follow.proofs.{LookLaws.{look-no_kinds, told-clear}, ToldLaws.{told_of-short}}
use Rattle.p25_follow.proofs.told.look_at.Goals as goal

pub returns-then-len-at-lt-SENT_FRONT_LENGTH : goal.returns-then-len-at-lt-SENT_FRONT_LENGTH
returns-then-len-at-lt-SENT_FRONT_LENGTH c =
    let bits = c.args.bits.now in
    let at = c.args.at in
    let look : Look = record { told = Nothing; clear = true } in
    told_of-short (name_of c.args.before.now) (drop at bits) (omega (arith, length-drop at bits, c.len.ensures.value, c.if-len-at-lt-SENT_FRONT_LENGTH.true)) ∙ told-clear look (drop at bits) refl

pub returns-in-None : goal.returns-in-None
returns-in-None c =
    let bits = c.args.bits.now in
    let at = c.args.at in
    let long : 114 ≤ length (drop at bits) = omega (arith, length-drop at bits, c.len.ensures.value, c.if-len-at-lt-SENT_FRONT_LENGTH.false) in
    let look : Look = record { told = Nothing; clear = false } in
    look-no_kinds (name_of c.args.before.now) (drop at bits) look long c.in-None.ensures.list refl refl
