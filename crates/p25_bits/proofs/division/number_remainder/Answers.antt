use Rattle.std.proofs.Common.{◌-◌, ◌/◌, ◌^◌, ◌≡◌, ap, ◌∙◌, subst, arith}
use Rattle.p25_bits.specs.Divisible.{IsRemainder}
use Rattle.p25_bits.proofs.DivisibleLaws.{high_more, IsRemainder-highest, IsRemainder-unique}
use Rattle.p25_bits.proofs.division.number_remainder.Goals as goal

pub loop-k-init : goal.loop-k-init
loop-k-init c = IsRemainder-highest c.args.generator c.args.degree c.args.number c.requires.fits c.ranges.number.fits

pub loop-k-preserved : goal.loop-k-preserved
loop-k-preserved c =
    rw (high_more c.args.number c.loop-k.k (omega arith)) (c.next_remainder-remainder.ensures.next _ c.loop-k.invariant)

is_remainder : goal.returns-clause-is
is_remainder c =
    let loop = c.loop-k in
    let none : 64 - loop.k ≡ 0 = omega arith in
    subst (λ n. IsRemainder c.args.generator c.args.degree n loop.remainder) (ap (λ n. c.args.number / 2 ^ n) none ∙ omega arith) loop.invariant

pub returns-clause-is : goal.returns-clause-is
returns-clause-is c = is_remainder c

pub returns-clause-only : goal.returns-clause-only
returns-clause-only c = λ other is. IsRemainder-unique c.args.generator c.args.degree c.args.number other c.loop-k.remainder c.requires.generator is (is_remainder c)
