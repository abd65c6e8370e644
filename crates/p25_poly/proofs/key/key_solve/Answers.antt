use Rattle.std.proofs.{Common.{◌*◌, length, refl, inl, inr, arith}, lemmas.Bool.{cases_lt}}
use Rattle.p25_gf64.specs.Gf64.{gf64}
use Rattle.p25_algebra.specs.Series.{coefficient}
use Rattle.p25_poly.proofs.{CoefficientLaws.{coefficient_past}, EuclidSteps.{pair_first, pair_key, pair_swapped}, key.key_solve.Goals.{then-loop-back-test+else-front-syndromes, else-loop-back-test}}
use Rattle.p25_poly.proofs.key.key_solve.Goals as goal

pub loop-back-init : goal.loop-back-init
loop-back-init c =
    let back_is = c.series-back.ensures in
    let front_is = c.power-front.ensures in
    let syndromes = c.args.syndromes.now in
    record {
      pair =
          pair_first (length syndromes) (coefficient gf64 syndromes) c.power-front.result c.series-back.result (omega arith) c.requires.few
          front_is.at front_is.others front_is.factor front_is.degree
          back_is.rest back_is.front (λ k high. coefficient_past gf64 syndromes k high)
          back_is.at back_is.others back_is.degree;
      lower = λ high. omega (arith, front_is.degree, back_is.degree);
      half = λ low. absurd (omega (arith, low, front_is.degree));
      front_inside = omega (arith, front_is.degree, c.requires.few);
      back_inside = omega (arith, back_is.degree);
    }

pub loop-back-preserved-then-back-syndromes : goal.loop-back-preserved-then-back-syndromes
loop-back-preserved-then-back-syndromes c =
    let syndromes = c.args.syndromes.now in
    let held = c.loop-back.invariant in
    let first = c.lower in
    let second = c.lower-then-back-syndromes in
    let pair = held.pair in
    let count = length syndromes in record {
      pair = pair_swapped count (coefficient gf64 syndromes) second.new.front second.new.back (omega (arith, second.ensures.back_most, first.ensures.front_most, pair.most))
          (second.ensures.pair (coefficient gf64 syndromes)
          (pair_swapped count (coefficient gf64 syndromes) first.new.front first.new.back
          (omega (arith, first.ensures.back_most, held.back_inside)) (first.ensures.pair (coefficient gf64 syndromes) pair)));
      lower = λ high. omega (arith, second.ensures.lower high);
      half = second.ensures.half;
      front_inside = omega (arith, second.ensures.back_most, first.ensures.back_most, held.front_inside, held.lower c.if-front-syndromes.true);
      back_inside = omega (arith, second.ensures.front_most, first.ensures.front_most, pair.most);
    }

pub loop-back-preserved : goal.loop-back-preserved
loop-back-preserved c =
    let if_back_syndromes = c.if-back-syndromes.false in
    let ensures = c.lower.ensures in
    let held = c.loop-back.invariant in
    record {
      pair = ensures.pair (coefficient gf64 c.args.syndromes.now) held.pair;
      lower = λ high. omega (arith, ensures.half if_back_syndromes, if_back_syndromes);
      half = λ low. absurd (omega (arith, low, ensures.half if_back_syndromes));
      front_inside = omega (arith, ensures.front_most, held.front_inside);
      back_inside = omega (arith, ensures.back_most, held.back_inside);
    }

pub returns-then-back-syndromes-2 : goal.returns-then-back-syndromes-2
returns-then-back-syndromes-2 c =
    let loop = c.loop-back in
    let if_back_syndromes_2 = c.if-back-syndromes-2.true in
    let count = length c.args.syndromes.now in
    pair_key count c.args.syndromes.now loop.front loop.back c.key_of.result.locator c.key_of.result.evaluator refl c.requires.some c.requires.even loop.invariant.pair
    (omega (arith, if_back_syndromes_2))
    (elim (cases_lt (2 * loop.front.degree) count) [ inl low ↦ absurd (omega (arith, loop.invariant.half low, if_back_syndromes_2)) | inr high ↦ high ])
    c.key_of.ensures.locator c.key_of.ensures.evaluator

pub returns-else-back-syndromes-2 : goal.returns-else-back-syndromes-2
returns-else-back-syndromes-2 c =
    let loop = c.loop-back in
    let syndromes = c.args.syndromes.now in
    let if_back_syndromes_2 = c.if-back-syndromes-2.false in
    let key = c.key_of-else-back-syndromes-2 in
    pair_key (length syndromes) syndromes loop.back loop.front key.result.locator key.result.evaluator refl c.requires.some c.requires.even
    (pair_swapped (length syndromes) (coefficient gf64 syndromes) loop.front loop.back loop.invariant.back_inside loop.invariant.pair)
    (elim c.loop-back-test.branch [
      | then-loop-back-test+else-front-syndromes w ↦ omega (arith, w.if-front-syndromes.false)
      | else-loop-back-test w ↦ absurd (omega (arith, w.loop-back-test.false, if_back_syndromes_2))
    ])
    (omega (arith, if_back_syndromes_2))
    key.ensures.locator key.ensures.evaluator
