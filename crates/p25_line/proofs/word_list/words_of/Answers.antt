use Rattle.std.proofs.Common.{◌≡◌, ◌<◌, length, sym, ◌∙◌, arith}
use Rattle.p25_line.proofs.WordsSteps.{Cut-space, Cut-printed, none-bad, none-end, answer-long, answer-form, answer-words}
use Rattle.p25_line.proofs.word_list.words_of.Goals.{then-octet-eq32+then-start-i, else-octet-eq32+else-not-is_ascii_graphic}
use Rattle.p25_line.proofs.word_list.words_of.Goals as goal

pub returns-then-line-gt-LINE_MOST : goal.returns-then-line-gt-LINE_MOST
returns-then-line-gt-LINE_MOST c = answer-long c.args.line.now c.clear.new.self c.clear.ensures c.if-line-gt-LINE_MOST.true

pub returns-then-not-is_ascii_graphic : goal.returns-then-not-is_ascii_graphic
returns-then-not-is_ascii_graphic c =
    let line = c.args.line.now in
    answer-form line c.clear-then-not-is_ascii_graphic.new.self c.clear-then-not-is_ascii_graphic.ensures c.if-line-gt-LINE_MOST.false
    (none-bad line c.loop-i.out c.loop-i.start c.loop-i.i c.loop-i.invariant c.loop-i-test.true
    (sym c.is_ascii_graphic.ensures.value ∙ c.if-not-is_ascii_graphic.true) c.else-octet-eq32.either)

pub loop-i-preserved : goal.loop-i-preserved
loop-i-preserved c =
    let line = c.args.line.now in
    elim c.if-octet-eq32.branch [
      | then-octet-eq32+then-start-i w ↦ rw (w.out-is, w.start-is)
          (Cut-space line c.loop-i.out w.note.new.self c.loop-i.start c.loop-i.i c.loop-i.invariant c.loop-i-test.true w.if-start-i.true w.if-octet-eq32.true w.note.ensures.count w.note.ensures.spans)
      | else-octet-eq32+else-not-is_ascii_graphic w ↦ rw (w.out-is, w.start-is)
          (Cut-printed line c.loop-i.out c.loop-i.start c.loop-i.i c.loop-i.invariant c.loop-i-test.true (sym w.is_ascii_graphic.ensures.value ∙ w.if-not-is_ascii_graphic.false))
    ]

pub returns-then-start-line : goal.returns-then-start-line
returns-then-start-line c =
    answer-form c.args.line.now c.clear-then-start-line.new.self c.clear-then-start-line.ensures c.if-line-gt-LINE_MOST.false
    (none-end c.args.line.now c.loop-i.out c.loop-i.start c.loop-i.i c.loop-i.invariant c.if-start-line.true)

pub returns : goal.returns
returns c =
    let line = c.args.line.now in
    let cut = c.loop-i.invariant in
    let end : c.loop-i.i ≡ length line = omega (arith, cut.within) in
    let some : c.loop-i.start < c.loop-i.i = omega (arith, cut.order) in
    answer-words line c.loop-i.out c.note-2.new.self c.loop-i.start c.loop-i.i cut end some c.if-line-gt-LINE_MOST.false c.note-2.ensures.count
    (rw end c.note-2.ensures.spans)
