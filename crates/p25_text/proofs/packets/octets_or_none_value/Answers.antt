use Rattle.std.proofs.Common.{◌≡◌, ◌++◌, length, take, Some, refl, sym, ap, ◌∙◌, arith, length-take}
use Rattle.p25_line.specs.Octets.{octets_up_to}
use Rattle.p25_text.proofs.ValueLaws.{octets_or_none-found, octets_or_none-other}
use Rattle.p25_text.proofs.packets.octets_or_none_value.Goals as goal

pub returns-clause-value : goal.returns-clause-value
returns-clause-value c =
    let count = c.args.count in
    let room = c.octets_or_dash.new.out in
    let found : octets_up_to 1520 c.args.word.now ≡ Some (take count room) =
    sym c.in_ok-octets_or_dash.ensures.value ∙ ap (λ n. Some (take n room)) c.if-branch-count.false in
    let long : length (take count room) ≡ count = omega (arith, length-take count room, c.in_ok-octets_or_dash.ensures.few, c.if-branch-count.false) in
    ap Some (c.extend.ensures.list ∙ ap (λ l. l ++ take count room) c.new-octets.ensures) ∙ sym (octets_or_none-found 1520 count c.args.word.now (take count room) found long)

pub returns-then-branch-count-clause-value : goal.returns-then-branch-count-clause-value
returns-then-branch-count-clause-value c =
    let room = c.octets_or_dash.new.out in
    let n = c.in_ok-octets_or_dash.field-0 in
    let read : octets_up_to 1520 c.args.word.now ≡ Some (take n room) = sym c.in_ok-octets_or_dash.ensures.value in
    sym (octets_or_none-other 1520 c.args.count c.args.word.now _ c.requires refl
    (λ octets found same.
    let is : take n room ≡ octets = cc in
    c.if-branch-count.true (omega (arith, ap length is, same, length-take n room, c.in_ok-octets_or_dash.ensures.few))))
