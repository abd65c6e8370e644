use Rattle.std.proofs.{Common.{◌≡◌, ◌+◌, ◌*◌, ◌/◌, ◌<◌, ◌≤◌, length, take, get_or, refl, sym, ◌∙◌, arith}, Math.Nat.{mul_comm}, lemmas.List.{length-take-le}}
use Rattle.p25_coded_fields.proofs.{FixesLaws.{all_fixes, fixes_most, fixes_next, fixes_none, there_before, word_most}, SymbolsLaws.{group_is, room_at}}
use Rattle.p25_coded_fields.proofs.fixes.field_fixes.Goals as goal

pub loop-i-init : goal.loop-i-init
loop-i-init g c = sym (fixes_none g.I.BlockCode.encoding_is g.I.BlockCode.N _ _ c.args.bare.now)

pub loop-i-preserved : goal.loop-i-preserved
loop-i-preserved g c =
    let b = g.I.BlockCode in
    let places = c.args.places.now in
    let word = c.args.word.now in
    let i = c.loop-i.i in
    let each = c.K-each.result / 6 in
    let group : each ≡ b.K / 6 = rw c.K-each.ensures refl in
    let inside : i < length places = omega arith in
    rw (c.loop-i.invariant, c.inner_fixes-more.ensures, group_is each each)
    (sym (fixes_next b.encoding_is b.N each (g.met.I.BlockCode.length_of_word c.requires.code) (g.met.I.NumberCode.encodes c.requires.code) i places
    word c.args.bare.now (rw group c.requires.sixes) c.requires.there inside (room_at each i (length places) (length word) inside (mul_comm each (length places) ∙ (rw group c.requires.word)))))

pub overflow_add-wrong : goal.overflow_add-wrong
overflow_add-wrong g c =
    let b = g.I.BlockCode in
    let places = c.args.places.now in
    let i = c.loop-i.i in
    let each = c.K-each.result / 6 in
    let bare = c.args.bare.now in
    let inside : i < length places = omega arith in
    let more : c.inner_fixes-more.result ≤ 24 = rw c.inner_fixes-more.ensures (word_most b.N (get_or places i 0) 24 bare _ c.requires.small (c.requires.there i 0 inside)) in
    omega (
      arith,
      more,
      c.loop-i.invariant,
      fixes_most b.encoding_is b.N each 24 (take i places) (take (each * i) c.args.word.now) bare c.requires.small (there_before b.N (length bare) i places c.requires.there),
      length-take-le i places (omega arith),
      c.requires.few,
    )

pub returns : goal.returns
returns g c =
    let b = g.I.BlockCode in
    rw c.loop-i.invariant
    (all_fixes b.encoding_is b.N _ _ c.loop-i.i c.args.places.now c.args.word.now c.args.bare.now
    (rw c.K-each.ensures refl) (omega arith) (omega arith) c.requires.word)
