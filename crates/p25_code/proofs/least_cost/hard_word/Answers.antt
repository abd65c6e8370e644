use Rattle.std.proofs.Common.{◌≡◌, ℕ, ◌+◌, ◌-◌, ◌*◌, ◌^◌, ◌<◌, take, drop, get_or, arith, ap}
use Rattle.std.proofs.lemmas.Nat.{pow-add}
use Rattle.std.proofs.Math.Seq.{get_or-take}
use Rattle.p25_code.proofs.LeastCostLaws.{alone_none, alone-more, power-le}
use Rattle.p25_code.proofs.least_cost.hard_word.Goals as goal

pub loop-i-init : goal.loop-i-init
loop-i-init c = record { fits = omega arith; alone = alone_none c.args.costs.now }

pub overflow_mul-word : goal.overflow_mul-word
overflow_mul-word c =
    omega (arith, c.loop-i.invariant.fits, power-le (2 * c.loop-i.i) 22)

pub overflow_add-word : goal.overflow_add-word
overflow_add-word c =
    omega (arith, c.loop-i.invariant.fits, c.in_ok-word.ensures.0, power-le (2 * c.loop-i.i) 22)

pub loop-i-preserved : goal.loop-i-preserved
loop-i-preserved c =
    let loop = c.loop-i in
    let i = loop.i in
    let value = c.in_ok-word.field-0 in
    let costs = c.args.costs.now in
    let small = c.in_ok-word.ensures.0 in
    let width : 2 * (i + 1) ≡ 2 * i + 2 = omega arith in
    let read : (j : ℕ) → j < 4 → get_or (take (4 * i + 4 - 4 * i) (drop (4 * i) costs)) j 0 ≡ get_or (drop (4 * i) costs) j 0
    = λ j below. get_or-take _ _ j 0 (omega arith) in
    record {
      fits = omega (arith, loop.invariant.fits, small, ap (λ m. 2 ^ m) width, pow-add 2);
      alone = alone-more i loop.word value costs small
          (λ j below ne. omega (arith, c.in_ok-word.ensures.1 j below ne, read j below, read value small)) loop.invariant.alone;
    }
