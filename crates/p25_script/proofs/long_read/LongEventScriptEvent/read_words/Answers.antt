use Rattle.std.proofs.Common.{◌≡◌, length, ap, sym, ◌∙◌}
use Rattle.p25_line.specs.LineReadings.{value_or_fault}
use Rattle.p25_fragments.specs.declared.long_step.LongEvent.TheVariants.{Long}
use Rattle.p25_script.proofs.LongReadSteps.{other_word, right_count, wrong_count}
use Rattle.p25_script.proofs.long_read.LongEventScriptEvent.read_words.Goals as goal

pub returns-then-not-is_same : goal.returns-then-not-is_same
returns-then-not-is_same c = c.read_other.ensures ∙ sym (other_word c.args.words.now c.first-first.result.now c.first-first.ensures (sym c.is_same.ensures ∙ c.if-not-is_same.true))

pub returns-then-count-ne2 : goal.returns-then-count-ne2
returns-then-count-ne2 c =
    let words = c.args.words.now in
    sym (wrong_count words c.first-first.result.now c.first-first.ensures (sym c.is_same.ensures ∙ c.if-not-is_same.false) (λ same. c.if-count-ne2.true (c.count.ensures.count ∙ same)))

pub returns-in-Some : goal.returns-in-Some
returns-in-Some c =
    let words = c.args.words.now in
    let two : length words ≡ 2 = sym c.count.ensures.count ∙ c.if-count-ne2.false in
    let read = right_count words c.first-first.result.now c.get.result.now c.first-first.ensures (sym c.is_same.ensures ∙ c.if-not-is_same.false) two c.get.ensures.word in
    sym (read ∙ ap (value_or_fault Long) (sym c.message_value.ensures ∙ c.in-Some.is))

pub returns-in-None : goal.returns-in-None
returns-in-None c =
    let words = c.args.words.now in
    let two : length words ≡ 2 = sym c.count.ensures.count ∙ c.if-count-ne2.false in
    let read = right_count words c.first-first.result.now c.get.result.now c.first-first.ensures (sym c.is_same.ensures ∙ c.if-not-is_same.false) two c.get.ensures.word in
    sym (read ∙ ap (value_or_fault Long) (sym c.message_value.ensures ∙ c.in-None.is))
