use Rattle.std.proofs.Common.{length, sym, ap, subst, ◌∙◌, arith}
use Rattle.p25_line.specs.CommaLists.{comma_parts, counted, entries_in}
use Rattle.p25_text.specs.Packets.{slot_in}
use Rattle.p25_line.proofs.CommaReadLaws.{EntriesSoFar, EntriesSoFar-end, EntriesSoFar-over, EntriesSoFar-start, counted-other, counted-same, list_in-parts}
use Rattle.p25_text.proofs.packets.slots_value.Goals as goal

pub loop-part-init : goal.loop-part-init
loop-part-init c = record {
  so_far = subst (EntriesSoFar slot_in c.args.word.now 0) (sym c.new-slots.ensures) (EntriesSoFar-start slot_in c.args.word.now);
  len = ap length c.new-slots.ensures;
}

pub returns-then-start-word-clause-value : goal.returns-then-start-word-clause-value
returns-then-start-word-clause-value c =
    let word = c.args.word.now in
    let items = EntriesSoFar-end slot_in word c.loop-part.start c.loop-part.slots c.loop-part.invariant.so_far c.if-start-word.true in
    sym (ap (counted c.args.count) (list_in-parts slot_in word (sym c.is_dash.ensures ∙ c.if-is_dash.false))
    ∙ counted-other (entries_in slot_in (comma_parts word)) c.loop-part.slots c.args.count items (λ same. omega (arith, c.loop-part.invariant.len, c.loop-part-test.true)))

pub returns-clause-value : goal.returns-clause-value
returns-clause-value c =
    let word = c.args.word.now in
    let items = EntriesSoFar-end slot_in word c.loop-part.start c.loop-part.slots c.loop-part.invariant.so_far (omega arith) in
    sym (ap (counted c.args.count) (list_in-parts slot_in word (sym c.is_dash.ensures ∙ c.if-is_dash.false))
    ∙ counted-same (entries_in slot_in (comma_parts word)) c.loop-part.slots c.args.count items (omega (arith, c.loop-part.invariant.len, c.loop-part-test.false)))

pub returns-then-start-word-2-clause-value : goal.returns-then-start-word-2-clause-value
returns-then-start-word-2-clause-value c =
    let word = c.args.word.now in
    sym (ap (counted c.args.count) (list_in-parts slot_in word (sym c.is_dash.ensures ∙ c.if-is_dash.false))
    ∙ EntriesSoFar-over slot_in word c.loop-part.start c.args.count c.loop-part.slots c.loop-part.invariant.so_far (omega arith) (omega (arith, c.loop-part.invariant.len, c.loop-part-test.false)))
