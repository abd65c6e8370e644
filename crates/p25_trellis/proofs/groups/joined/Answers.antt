use Rattle.std.proofs.{Common.{ℕ, ◌+◌, ◌*◌, ◌^◌, ◌<◌, length, ap, sym, subst, ◌∙◌, arith}, Math.Nat.{mul-zero}, lemmas.Nat.{pow_pos}}
use Rattle.p25_bits.specs.Bits.{bits_of}
use Rattle.p25_bits.proofs.{BitsLaws.{bits_of-zero}, NumbersLaws.{number_bits-nil}}
use Rattle.p25_trellis.proofs.GroupSteps.{joined_more, joined_more-lt, joined-lt, moved_up}
use Rattle.p25_trellis.proofs.groups.joined.Goals as goal

pub loop-number-init : goal.loop-number-init
loop-number-init c = record {
  bits = ap (λ n. bits_of n 0) (mul-zero c.args.width) ∙ bits_of-zero 0 ∙ sym (number_bits-nil c.args.width);
  fits = pow_pos (c.args.width * 0);
}

pub overflow_add-whole : goal.overflow_add-whole
overflow_add-whole c =
    let width = c.args.width in
    let i = c.loop-number.number-index in
    let whole = c.loop-number.whole in
    omega (
      arith,
      moved_up width,
      joined-lt width (i + 1) (length c.args.numbers.now) 28 (whole * 2 ^ width + c.from.result) (omega arith) c.requires.few
          (joined_more-lt width i whole c.from.result (subst (λ (n : ℕ). n < 2 ^ width) (sym c.from.ensures) (c.requires.small i 0 (omega arith))) c.loop-number.invariant.fits),
    )

pub loop-number-preserved : goal.loop-number-preserved
loop-number-preserved c =
    let loop = c.loop-number in
    let numbers = c.args.numbers.now in
    let width = c.args.width in
    let i = loop.number-index in
    let whole = loop.whole in
    let number = c.from.result in
    let inside : i < length numbers = omega arith in
    let small : number < 2 ^ width = rw c.from.ensures (c.requires.small i 0 inside) in
    let moved = ap (λ n. n + number) (moved_up width i _ whole inside (omega (arith, c.requires.few)) loop.invariant.fits) in record {
      bits = cc (moved, joined_more width i whole number numbers inside c.from.ensures small loop.invariant.bits);
      fits = rw moved (joined_more-lt width i whole number small loop.invariant.fits);
    }
