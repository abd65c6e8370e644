use Rattle.std.proofs.Common.{◌≡◌, ◌-◌, ℕ, ap₂, ◌∙◌, arith, drop, length-drop}
use Rattle.p25_bits.specs.Bits.{part}
use Rattle.p25_follow.specs.Told.{name_errors_of}
use Rattle.p25_follow.proofs.ToldLaws.{errors-parts}
use Rattle.p25_follow.proofs.told.nearness.Goals as goal

pub overflow_sub-result : goal.overflow_sub-result
overflow_sub-result c =
    let bits = c.args.bits.now in
    let at = c.args.at in
    let name = c.with_kind.result in
    omega (arith, c.front_fixes.ensures.value, c.requires.sync, errors-parts (name.nac, name.duid) (drop at bits) (omega (arith, length-drop at bits)))

pub returns-clause-wrong : goal.returns-clause-wrong
returns-clause-wrong c =
    let bits = c.args.bits.now in
    let at = c.args.at in
    let name = c.with_kind.result in
    let is : c.front_fixes.result - c.args.sync ≡ name_errors_of (name.nac, name.duid) (part at 114 bits)
    = omega (arith, c.front_fixes.ensures.value, c.requires.sync, errors-parts (name.nac, name.duid) (drop at bits) (omega (arith, length-drop at bits))) in
    is ∙ ap₂ (λ (nac kind : ℕ). name_errors_of (nac, kind) (part at 114 bits)) c.with_kind.ensures.network c.with_kind.ensures.kind
