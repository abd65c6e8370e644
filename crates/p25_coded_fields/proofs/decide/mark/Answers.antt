use Rattle.std.proofs.Common.{◌≡◌, ◌+◌, ◌*◌, ◌<◌, ◌≤◌, nat_lt, length, get_or, replicate, arith, ap, ◌∙◌}
use Rattle.std.proofs.lemmas.List.{length-replicate}
use Rattle.p25_coded_fields.specs.Decided.{marks_by}
use Rattle.p25_coded_fields.proofs.{SymbolsLaws.{length_group, room_at}, DecidedLaws.{joined_all, joined_first, joined_next}}
use Rattle.p25_coded_fields.proofs.decide.mark.Goals as goal

pub loop-i-init : goal.loop-i-init
loop-i-init c = joined_first _ c.args.each c.args.erased.now

pub loop-i-preserved : goal.loop-i-preserved
loop-i-preserved c =
    let each = c.args.each in
    let i = c.loop-i.i in
    let erased = c.loop-i.erased in
    let ranks = c.args.ranks.now in
    let whole : each * length ranks ≡ length erased = c.requires.erased ∙ omega arith in
    let there : each * i + each ≤ length erased = room_at each i (length ranks) (length erased) (omega arith) whole in
    let group = length_group each i erased there in
    let mark = nat_lt (each * get_or ranks i 0) c.args.symbols in
    let is = c.fill.ensures.after (λ y e. e) ∙ ap (λ n. replicate n mark) group in
    joined_next _ each i _ erased c.fill.new.self there (ap length is ∙ length-replicate each mark) c.loop-i.invariant is

pub returns : goal.returns
unfolding marks_by
returns c =
    let here : c.loop-i.i ≡ length c.args.ranks.now = omega arith in
    joined_all _ c.args.each c.loop-i.i (length c.args.ranks.now) c.loop-i.erased here (c.requires.erased ∙ omega arith) c.loop-i.invariant
