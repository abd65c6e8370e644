use Rattle.std.proofs.Common.{◌≡◌, ◌++◌, Some, None, codes, decimal, ap, ◌∙◌}
use Rattle.p25_line.specs.Values.{three_digits}
use Rattle.p25_calls.specs.CallTexts.{algid_text, call_text_of, end_word, entry_word, link_text}
use Rattle.p25_calls.proofs.text.call_text.Goals.{After-put-5, then-call, else-call, in-Tdu, in-Tdulc, in-Open, in-Some, in-None}
use Rattle.p25_calls.proofs.text.call_text.Goals as goal

-- the text before the algorithm
before_algid : (c : After-put-5) → c.put-5.new.self
    ≡ codes "call at=" ++ decimal c.args.call.now.place ++ codes " bits=" ++ decimal c.args.call.now.bits ++ codes " nac=" ++ three_digits c.args.call.now.nac
    ++ codes " entry=" ++ entry_word c.args.call.now.late ++ codes " end=" ++ end_word c.args.call.now.end
    ++ codes " links=" ++ decimal c.args.call.now.links ++ codes " broken=" ++ decimal c.args.call.now.broken
    ++ codes " lc=" ++ link_text c.args.call.now.link ++ codes " alg="
before_algid c =
    let entry : c.if-call.out ≡ c.put-2.new.self ++ entry_word c.args.call.now.late = elim c.if-call.branch [
      | then-call w ↦ rw w.if-call.true (w.out-is ∙ w.put-then-call.ensures.list)
      | else-call w ↦ rw w.if-call.false (w.out-is ∙ w.put-else-call.ensures.list)
    ] in
    let end : c.match-call.out ≡ c.put-3.new.self ++ end_word c.args.call.now.end = elim c.match-call.branch [
      | in-Tdu w ↦ rw w.in-Tdu.is (w.out-is ∙ w.put-in-Tdu.ensures.list)
      | in-Tdulc w ↦ rw w.in-Tdulc.is (w.out-is ∙ w.put-in-Tdulc.ensures.list)
      | in-Open w ↦ rw w.in-Open.is (w.out-is ∙ w.put-in-Open.ensures.list)
    ] in
    let link : c.match-call-2.out ≡ c.put-4.new.self ++ link_text c.args.call.now.link = elim c.match-call-2.branch [
      | in-Some w ↦ rw w.in-Some.is (w.out-is ∙ w.put_hex.ensures.list)
      | in-None w ↦ rw w.in-None.is (w.out-is ∙ w.put-in-None.ensures.list)
    ] in
    rw (
      c.put-5.ensures.list,
      link,
      c.put-4.ensures.list,
      c.put_labelled-4.ensures.text,
      c.from-2.ensures,
      c.put_labelled-3.ensures.text,
      c.from.ensures,
      end,
      c.put-3.ensures.list,
      entry,
      c.put-2.ensures.list,
      c.put_three_digits.ensures.list,
      c.put.ensures.list,
      c.put_labelled-2.ensures.text,
      c.put_labelled.ensures.text,
      c.clear.ensures,
    )

pub returns-in-Some-algid-clause-text : goal.returns-in-Some-algid-clause-text
unfolding call_text_of
returns-in-Some-algid-clause-text c =
    rw c.in-Some-algid.is (c.put_hex-in-Some-algid.ensures.list ∙ ap (λ l. l ++ algid_text (Some c.in-Some-algid.algid)) (before_algid c.before.before.before.before))

pub returns-in-None-algid-clause-text : goal.returns-in-None-algid-clause-text
unfolding call_text_of
returns-in-None-algid-clause-text c =
    rw c.in-None-algid.is (c.put-in-None-algid.ensures.list ∙ ap (λ l. l ++ algid_text None) (before_algid c.before.before.before.before.before))
