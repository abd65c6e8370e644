use Rattle.std.proofs.Common.{◌≡◌, ◌+◌, ◌*◌, ◌<◌, ◌≤◌, length, get_or, arith, ap, ◌∙◌}
use Rattle.p25_bits.specs.Bits.{bits_of}
use Rattle.p25_link.specs.Symbols.{symbols_in}
use Rattle.p25_link.proofs.SymbolsLaws.{length-symbols_in}
use Rattle.p25_coded_fields.proofs.{SymbolsLaws.{length_group, room_at}, DecidedLaws.{joined_all, joined_first, joined_next}}
use Rattle.p25_coded_fields.proofs.decide.put_words.Goals as goal

pub loop-i-init : goal.loop-i-init
loop-i-init c = joined_first _ c.args.each c.args.word.now

pub loop-i-preserved : goal.loop-i-preserved
loop-i-preserved c =
    let each = c.args.each in
    let i = c.loop-i.i in
    let word = c.loop-i.word in
    let infos = c.args.infos.now in
    let whole : each * length infos ≡ length word = c.requires.word ∙ omega arith in
    let there : each * i + each ≤ length word = room_at each i (length infos) (length word) (omega arith) whole in
    let group = length_group each i word there in
    let is = c.put_symbols.ensures ∙ ap (λ n. symbols_in n (bits_of (6 * n) c.from.result)) group ∙ ap (λ v. symbols_in each (bits_of (6 * each) v)) c.from.ensures in
    joined_next _ each i _ word c.put_symbols.new.symbols there (ap length is ∙ length-symbols_in each _) c.loop-i.invariant is

pub returns : goal.returns
returns c =
    let here : c.loop-i.i ≡ length c.args.infos.now = omega arith in
    joined_all _ c.args.each c.loop-i.i (length c.args.infos.now) c.loop-i.word here (c.requires.word ∙ omega arith) c.loop-i.invariant
