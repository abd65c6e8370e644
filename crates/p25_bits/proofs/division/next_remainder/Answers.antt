use Rattle.std.proofs.{Common.{◌+◌, ◌*◌, bit_xor, subst, arith}, Math.Nat.{pow-suc}}
use Rattle.p25_bits.specs.Divisible.{IsRemainder}
use Rattle.p25_bits.proofs.{BitsLaws.{digit_of-byte, digit_of-le}, DivisibleLaws.{remainder_kept, remainder_reduced, remainder_lower, reaches, stays_low}}
use Rattle.p25_bits.proofs.division.next_remainder.Goals as goal

pub returns-then-shifted-degree-eq1-clause-lower : goal.returns-then-shifted-degree-eq1-clause-lower
returns-then-shifted-degree-eq1-clause-lower c =
    let args = c.args in
    remainder_lower args.generator args.degree args.remainder c.from.result c.requires.generator (omega (arith, digit_of-le args.bit, (digit_of-byte))) c.requires.lower (reaches _ args.degree c.if-shifted-degree-eq1.true)

pub returns-then-shifted-degree-eq1-clause-next : goal.returns-then-shifted-degree-eq1-clause-next
returns-then-shifted-degree-eq1-clause-next c =
    let args = c.args in
    let e = digit_of-byte c.from.result args.bit c.from.ensures in
    λ number is.
    subst
    (λ d. IsRemainder args.generator args.degree (2 * number + d) (bit_xor (2 * args.remainder + c.from.result) args.generator))
    e
    (remainder_reduced args.generator args.degree number args.remainder c.from.result c.requires.generator (omega (arith, digit_of-le, e)) is (reaches _ args.degree c.if-shifted-degree-eq1.true))

pub returns-else-shifted-degree-eq1-clause-next : goal.returns-else-shifted-degree-eq1-clause-next
returns-else-shifted-degree-eq1-clause-next c =
    let args = c.args in
    let from = c.from.result in
    let e = digit_of-byte from args.bit c.from.ensures in
    λ number is.
    subst
    (λ d. IsRemainder args.generator args.degree (2 * number + d) (2 * args.remainder + from))
    e
    (remainder_kept args.generator args.degree number args.remainder from (omega (arith, digit_of-le, e)) is (stays_low _ args.degree (omega (arith, pow-suc, digit_of-le args.bit, e)) c.if-shifted-degree-eq1.false))
