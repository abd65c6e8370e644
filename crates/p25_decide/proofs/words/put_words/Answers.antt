use Rattle.std.proofs.{Common.{◌≤◌, length, refl, arith, ◌∙◌}, Math.Nat.{mul-le-mul_left}}
use Rattle.p25_decide.proofs.WordsLaws.{words_first, words_next, words_all}
use Rattle.p25_decide.proofs.words.put_words.Goals as goal

pub loop-i-init : goal.loop-i-init
loop-i-init c = record { list = words_first c.args.size c.args.places.now c.args.words.now c.args.bare.now; len = refl }

pub loop-i-preserved : goal.loop-i-preserved
loop-i-preserved c = record {
  list =
      words_next c.args.size c.loop-i.i c.args.places.now c.args.words.now c.loop-i.bare c.put_word.new.bare _ c.loop-i-test.true c.put_word.ensures.list
      c.loop-i.invariant.list;
  len = c.put_word.ensures.len ∙ c.loop-i.invariant.len;
}

pub returns-clause-list : goal.returns-clause-list
returns-clause-list c = words_all c.args.size c.loop-i.i c.args.places.now c.args.words.now c.loop-i.bare _ (omega arith) c.loop-i.invariant.list

pub overflow_mul-size : goal.overflow_mul-size
overflow_mul-size c =
    let less : c.loop-i.i ≤ length c.args.places.now = omega arith in
    omega (arith, mul-le-mul_left c.args.size less, c.requires.words)
