use Rattle.std.proofs.Common.{◌≡◌, ◌+◌, ◌<◌, length, refl, arith, ◌∙◌}
use Rattle.p25_decide.proofs.WordsLaws.{word_first, word_next, word_rest, word_all}
use Rattle.p25_decide.proofs.words.put_word.Goals as goal

pub loop-i-init : goal.loop-i-init
loop-i-init c = record { front = word_first c.args.at c.args.from c.args.words.now c.args.bare.now; rest = refl; len = refl }

pub loop-i-preserved : goal.loop-i-preserved
loop-i-preserved c =
    let at = c.args.at in
    let from = c.args.from in
    let i = c.loop-i.i in
    let words = c.args.words.now in
    let old = c.args.bare.now in
    let bare = c.loop-i.bare in
    let now = c.set.new.self in
    let there : at + i < length bare = omega (arith, c.loop-i.invariant.len) in
    let inside : from + i < length words = omega arith in record {
      front = word_next at from i c.get.result words old bare now there inside c.get.ensures c.set.ensures.list c.loop-i.invariant.front;
      rest = word_rest at c.args.size i c.get.result old bare now c.loop-i-test.true c.set.ensures.list c.loop-i.invariant.rest;
      len = c.set.ensures.len ∙ c.loop-i.invariant.len;
    }

pub returns-clause-list : goal.returns-clause-list
returns-clause-list c =
    let all : c.loop-i.i ≡ c.args.size = omega arith in
    word_all c.args.at c.args.from c.args.size c.loop-i.i c.args.words.now c.args.bare.now c.loop-i.bare all c.loop-i.invariant.front c.loop-i.invariant.rest
