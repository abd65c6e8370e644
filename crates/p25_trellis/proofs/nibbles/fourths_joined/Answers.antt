use Rattle.std.proofs.{Common.{◌≡◌, ◌+◌, ◌*◌, ◌^◌, ◌<◌, ap, sym, subst, ◌∙◌, arith}, lemmas.List.{take_all}}
use Rattle.p25_bits.proofs.{BitsLaws.{bits_of-zero}, NumbersLaws.{number_bits-nil}}
use Rattle.p25_trellis.specs.Interleave.{each_fourth}
use Rattle.p25_trellis.proofs.{FourthLaws.{get_or-each_fourth, length-fourths_of_49}, GroupSteps.{joined_more, joined_more-lt, moved_up}}
use Rattle.p25_trellis.proofs.nibbles.fourths_joined.Goals as goal

pub loop-k-init : goal.loop-k-init
loop-k-init c = record { bits = bits_of-zero 0 ∙ sym (number_bits-nil 4); fits = omega arith }

pub loop-k-preserved : goal.loop-k-preserved
loop-k-preserved c =
    let loop_k_test = c.loop-k-test.true in
    let loop = c.loop-k in
    let requires = c.requires in
    let from = c.args.from in
    let k = loop.k in
    let whole = loop.whole in
    let number = c.from.result in
    let nibbles = c.args.nibbles.now in
    let small : number < 2 ^ 4 = rw c.from.ensures (requires.small (from + 4 * k) 0 (omega (arith, c.told-nibbles, requires.there, loop_k_test))) in
    let moved = ap (λ n. n + number) (moved_up 4 k c.args.count whole loop_k_test (omega (arith, requires.there)) loop.invariant.fits) in record {
      bits =
          cc (
            moved,
            joined_more 4 k whole number (each_fourth from nibbles) (omega (arith, (length-fourths_of_49 from c.args.count nibbles requires.from), loop_k_test))
                (c.from.ensures ∙ sym (get_or-each_fourth from nibbles k 0)) small loop.invariant.bits,
          );
      fits = rw (sym moved) at (joined_more-lt 4 k whole number small loop.invariant.fits);
    }

pub returns-clause-bits : goal.returns-clause-bits
returns-clause-bits c =
    let loop = c.loop-k in
    let args = c.args in
    let done : args.count ≡ loop.k = omega (arith, c.loop-k-test.false, loop.auto.k-end) in
    cc (done, loop.invariant.bits, take_all loop.k (each_fourth args.from args.nibbles.now) (omega (arith, (length-fourths_of_49 args.from args.count args.nibbles.now), done)))

pub returns-clause-fits : goal.returns-clause-fits
returns-clause-fits c =
    let loop = c.loop-k in
    subst (λ n. loop.whole < 2 ^ (4 * n)) (omega (arith, c.loop-k-test.false, loop.auto.k-end)) loop.invariant.fits
