use Rattle.std.proofs.Common.{sym, ◌∙◌}
use Rattle.p25_script.proofs.ReadLaws.{right_kind, wrong_count, wrong_kind}
use Rattle.p25_script.proofs.read.EventScriptEvent.read_words.Goals as goal

pub returns-in_default : goal.returns-in_default
returns-in_default c = sym (wrong_kind c.args.words.now c.first.result.now c.first.ensures (sym c.in_default.ensures))

pub returns-then-count-words : goal.returns-then-count-words
returns-then-count-words c =
    sym (wrong_count c.args.words.now c.first.result.now c.in-Some.kind c.first.ensures
    (sym c.in-Some.ensures) (λ same. c.if-count-words.true (c.count.ensures.count ∙ same ∙ sym c.words.ensures.count)))

pub read_kind-requires : goal.read_kind-requires
read_kind-requires c = sym c.count.ensures.count ∙ c.if-count-words.false ∙ c.words.ensures.count

pub returns : goal.returns
returns c = c.read_kind.ensures ∙ sym (right_kind c.args.words.now c.first.result.now c.in-Some.kind c.first.ensures (sym c.in-Some.ensures))
