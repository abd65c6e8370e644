use Rattle.std.proofs.Common.{ℕ, ◌+◌, ◌≤◌, ◌&&◌, ◌∙◌, cond, true, false, refl, ap₂, arith, drop, length, length-drop}
use Rattle.std.specs.Prelude.{nat_le}
use Rattle.p25_follow.specs.{declared.told.Look.{Look}, declared.told.Told.TheVariants.{Expected, Nothing}, Expected.{name_of}, Told.{told_near}}
use Rattle.p25_follow.proofs.LookLaws.{look-far, look-near}
use Rattle.p25_follow.proofs.told.look_among.Goals as goal

pub returns-then-found-le-IDENTIFIER_RADIUS : goal.returns-then-found-le-IDENTIFIER_RADIUS
returns-then-found-le-IDENTIFIER_RADIUS c =
    let before = c.args.before.now in
    let rest = drop c.args.at c.args.bits.now in
    let found = c.nearest-found.result in
    let long : 114 ≤ length rest = omega (arith, length-drop c.args.at c.args.bits.now, c.requires.there) in
    let look : Look = record { told = Expected found.kind; clear = true } in
    look-near (name_of before) rest look c.args.kind found.kind long c.requires.list c.nearest-found.ensures.kind (omega (arith, before.nac_fits))
    (omega (arith, c.nearest-found.ensures.wrong, c.if-found-le-IDENTIFIER_RADIUS.true)) refl refl

pub returns-else-found-le-IDENTIFIER_RADIUS : goal.returns-else-found-le-IDENTIFIER_RADIUS
unfolding told_near
returns-else-found-le-IDENTIFIER_RADIUS c =
    let before = c.args.before.now in
    let rest = drop c.args.at c.args.bits.now in
    let found = c.nearest-found.result in
    let long : 114 ≤ length rest = omega (arith, length-drop c.args.at c.args.bits.now, c.requires.there) in
    let look : Look = record { told = c.told_near.result; clear = false } in
    look-far (name_of before) rest look c.args.kind found.kind long c.requires.list c.nearest-found.ensures.kind
    (omega (arith, c.nearest-found.ensures.wrong, c.if-found-le-IDENTIFIER_RADIUS.false))
    (c.told_near.ensures
    ∙ ap₂ (λ (wrong sync : ℕ). cond (nat_le wrong 16 && nat_le (sync + wrong) 30) (Expected found.kind) Nothing) c.nearest-found.ensures.wrong c.sync_errors-sync.ensures.value)
    refl
