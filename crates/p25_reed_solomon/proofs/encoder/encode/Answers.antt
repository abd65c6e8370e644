use Rattle.std.proofs.Common.{◌-◌, ◌++◌, length, drop, replicate, get_or, length-append, length-drop, ap, sym, refl, ◌∙◌, arith}
use Rattle.std.proofs.lemmas.List.{get_or-take, length-replicate}
use Rattle.p25_gf64.specs.{Gf64.{gf64}}
use Rattle.p25_poly.proofs.CoefficientLaws.{coefficient_blank, coefficient_read, front_replaced, rest_kept}
use Rattle.p25_reed_solomon.proofs.EncoderSteps.{divided_more, value_of_word, sum_vanishes, word_is_sum}
use Rattle.p25_reed_solomon.proofs.encoder.encode.Goals as goal

pub loop-i-init : goal.loop-i-init
loop-i-init c =
    let k = length c.args.info.now in (
      record { same = λ k low high. refl; cleared = λ j low. absurd (omega arith) },
      omega (arith, length-append c.copy_from_slice.new.self, length-drop k (replicate 95 c.default-divided.result), length-replicate 95 c.default-divided.result, (ap length c.copy_from_slice.ensures.after)),
    )

pub loop-i-preserved : goal.loop-i-preserved
loop-i-preserved c =
    let loop = c.loop-i in
    let index_divided_i = c.index-divided-i in
    let n = length c.args.word.now in
    let i = loop.i in
    let divided = loop.divided in
    let read = index_divided_i.result in (
      divided_more i n (n - length c.args.info.now) _ divided c.add_multiple.new.into c.generator_of-generator.result (get_or divided i read) c.generator_of-generator.ensures.generator (omega arith)
          (sym index_divided_i.is ∙ coefficient_read gf64 divided i read (omega (arith, loop.invariant.1)) index_divided_i.is)
          c.add_multiple.ensures loop.invariant.0,
      c.add_multiple.auto.into ∙ loop.invariant.1,
    )

pub returns-clause-word : goal.returns-clause-word
returns-clause-word c =
    let n = length c.args.word.now in
    let k = length c.args.info.now in
    let blank = replicate 95 c.default-divided.result in
    let divided = c.loop-i.divided in
    let front = c.copy_from_slice.new.self in
    let all = c.copy_from_slice-2.new.self in
    let front_again = c.copy_from_slice-3.new.self in
    let long = ap length c.copy_from_slice.ensures.after in
    let long_again = ap length c.copy_from_slice-3.ensures.after in
    record {
      long = omega arith;
      vanishes = λ i low high.
          value_of_word n i (front_again ++ drop k all)
          (sum_vanishes n (front ++ drop k blank) divided (front_again ++ drop k all) _
          (word_is_sum k n c.args.info.now blank (front ++ drop k blank) divided (front_again ++ drop k all)
          (λ j. coefficient_blank gf64 c.default-divided.result 95 j c.default-divided.ensures)
          (λ j below. cc (front_replaced gf64 front blank k j long below, c.copy_from_slice.ensures.after))
          (λ j from. rest_kept gf64 front blank k j long from)
          (λ j below. c.loop-i.invariant.0.cleared j (omega arith))
          (λ j below. cc (front_replaced gf64 front_again all k j long_again below, c.copy_from_slice-3.ensures.after))
          (λ j from inside.
          cc (rest_kept gf64 front_again all k j long_again from, c.copy_from_slice-2.ensures.after, get_or-take n divided j gf64.zero inside)))
          (c.loop-i.invariant.0.same i low high));
    }
