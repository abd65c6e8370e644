use Rattle.std.proofs.{Common.{◌+◌, ◌*◌, ◌≤◌, ◌++◌, List, Bool, length, sym, ap, ◌∙◌, append-nil, arith}, Math.Nat.{mul-le-mul_left, mul-zero}, lemmas.List.{take_all}}
use Rattle.p25_bits.proofs.NumbersLaws.{more_bits, number_bits-nil, number_bits_more}
use Rattle.p25_bits.proofs.bit_buf.BitBuf.put_numbers.Goals as goal

pub loop-number-init : goal.loop-number-init
loop-number-init c = (
  sym (append-nil c.args.self.now) ∙ ap (λ (xs : List Bool). c.args.self.now ++ xs) (sym (number_bits-nil c.args.width)),
  omega (arith, mul-zero c.args.width),
)

pub put_field-requires : goal.put_field-requires
put_field-requires c =
    let i = c.loop-number.number-index in
    let more : i + 1 ≤ length c.args.numbers.now = omega arith in record {
      width = omega arith;
      fits = rw c.from.ensures (c.requires.fits i 0 c.loop-number-test.true);
      room = omega (arith, more_bits, mul-le-mul_left c.args.width more);
    }

pub loop-number-preserved : goal.loop-number-preserved
loop-number-preserved c =
    let i = c.loop-number.number-index in
    let w = c.args.width in (
      cc (c.put_field.ensures.list, c.loop-number.invariant.0, c.from.ensures, number_bits_more c.args.self.now w c.args.numbers.now i c.loop-number-test.true),
      cc (c.put_field.ensures.len, c.loop-number.invariant.1, more_bits _ w i),
    )

pub returns-clause-list : goal.returns-clause-list
returns-clause-list c =
    cc (c.loop-number.invariant.0, take_all c.loop-number.number-index c.args.numbers.now c.loop-number-test.false)

pub returns-clause-len : goal.returns-clause-len
returns-clause-len c =
    c.loop-number.invariant.1 ∙ ap (λ n. length c.args.self.now + c.args.width * n) (omega arith)
