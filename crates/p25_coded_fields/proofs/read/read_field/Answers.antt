use Rattle.std.proofs.{Common.{◌≡◌, ◌+◌, ◌-◌, ◌*◌, ◌/◌, ◌<◌, ◌≤◌, List, length, take, drop, Bool, Option, [], refl, sym, ap, ◌∙◌, arith}, Math.Nat.{mul_comm}}
use Rattle.std.proofs.{lemmas.Cmp.{on_equiv, nat_eq_equiv}, lemmas.List.{nil_from_length}}
use Rattle.p25_bits.specs.Bits.{part}
use Rattle.p25_code.specs.{Erasures.{without_erased, IsErasedReading}, Readings.{word_read}, declared.code.Reading.{Reading}}
use Rattle.p25_code.proofs.{ReadingLaws.{IsBlockCode}, ErasedLaws.{erased_word_read_as, length-without_erased, one_erased_reading}}
use Rattle.p25_gf64.specs.{declared.symbol.Sym.{Sym}, Symbol.{number}}
use Rattle.p25_gf64.proofs.SymbolLaws.{same_from_eq}
use Rattle.p25_reed_solomon.specs.Words.{same_symbols}
use Rattle.p25_coded_fields.specs.{Layouts.{Layout, field_layout, outer_word_of, received_in, symbols_or_erasures}}
use Rattle.p25_coded_fields.proofs.{SymbolsLaws.{length_group, room_at}, FixesLaws.{few_places, fixes_most}}
use Rattle.p25_coded_fields.proofs.{ReadLaws.{cut_long, erased_before, erased_next, outer_read}, WithinLaws.{length-received_in}}
use Rattle.p25_coded_fields.proofs.read.read_field.Goals.{After-read_erased-2}
use Rattle.p25_coded_fields.proofs.read.read_field.Goals as goal
use Rattle.p25_coded_fields.proofs.read.read_field.Given as given

-- the decoding by the outer code is its codeword within the cost
outer_value : (g : given.Over) (code : g.O.BlockCode.HasCode) (received word : List Sym) (erased : List Bool) (reading : Reading) → length received ≡ g.O.BlockCode.N
    → IsErasedReading same_symbols g.O.BlockCode.IsWord (g.O.BlockCode.N - g.O.BlockCode.K) (without_erased received erased) received word reading
    → word_read reading word ≡ g.O.ErasedCode.erased_reading_is (without_erased received erased)
outer_value g code received word erased reading full is =
    let m = g.met.O.BlockCode in
    let o = g.O.BlockCode in
    let list = without_erased received erased in
    one_erased_reading (record {
      compares = on_equiv number nat_eq_equiv;
      alike = same_from_eq;
      long = m.length_of_word code;
      one_word = m.one_word code;
      far_apart = m.far_apart code;
      close = m.within code;
      begins = m.begins code;
    }) (g.met.O.ErasedCode.erasures_within code) list (word_read reading word) (g.O.ErasedCode.erased_reading_is list) (length-without_erased received erased ∙ full)
    (erased_word_read_as _ o.IsWord _ list received word reading is) (g.met.O.ErasedCode.erased_reads_as code list)

-- if no inner word carries a symbol, nothing is received
no_symbols : (layout : Layout) (bits : List Bool) (list : List (Option Sym)) → layout.each ≡ 0 → length list ≡ 0 → layout.outer_reading list ≡ outer_word_of layout bits
unfolding outer_word_of
no_symbols layout bits list none empty =
    rw (nil_from_length list empty, ← (nil_from_length (received_in layout bits) (rw (length-received_in, none) (omega arith))))

pub returns-then-each-eq0-clause-value : goal.returns-then-each-eq0-clause-value
returns-then-each-eq0-clause-value g c =
    let b = g.I.BlockCode in
    let word = c.args.word.now in
    let none : b.K / 6 ≡ 0 = rw c.K-each.ensures at c.if-each-eq0.true in
    outer_value g c.requires.outer word c.read_erased.new.word [] c.read_erased.result c.requires.word c.read_erased.ensures
    ∙ no_symbols _ c.args.bare.now (without_erased word []) none (length-without_erased word [] ∙ (rw (c.requires.word, ← c.requires.places, none) (omega arith)))

pub loop-i-init : goal.loop-i-init
loop-i-init g c = erased_before _ _ _

pub loop-i-preserved : goal.loop-i-preserved
loop-i-preserved g c =
    let loop = c.loop-i in
    let b = g.I.BlockCode in
    let places = c.args.places.now in
    let bare = c.args.bare.now in
    let word = loop.word in
    let erased = loop.erased in
    let i = loop.i in
    let each = c.K-each.result / 6 in
    let group : each ≡ b.K / 6 = rw c.K-each.ensures refl in
    let same = cut_long _ _ erased loop.auto.erased (omega arith) ∙ sym loop.auto.word in
    let inside : i < length places = omega arith in
    let there = room_at each i (length places) (length word) inside (rw (group, mul_comm) (omega arith)) in
    let long = length_group each i word there in
    erased_next _ places each i _ _ word c.read_inner.new.symbols erased c.read_inner.new.erased
    inside refl there same (omega (arith, long)) (omega (arith, length_group each i erased (rw same there))) loop.invariant (rw (long, group) at c.read_inner.ensures)

pub field_fixes-requires-clause-few : goal.field_fixes-requires-clause-few
field_fixes-requires-clause-few g c =
    let some : 0 < g.I.BlockCode.K / 6 = omega (arith, c.K-each.ensures) in
    few_places _ _ some (omega arith)

-- the decoded outer word is that of all positions
word_is : (g : given.Over) (c : After-read_erased-2 g)
    → word_read c.read_erased-2.result c.read_erased-2.new.word
    ≡ outer_word_of (field_layout c.args.places.now g.I.BlockCode.N (g.I.BlockCode.K / 6) g.I.BlockCode.reading_is g.O.ErasedCode.erased_reading_is g.O.BlockCode.K) c.args.bare.now
word_is g c =
    let loop = c.loop-i in
    let read_erased_2 = c.read_erased-2 in
    let b = g.I.BlockCode in
    let places = c.args.places.now in
    outer_read (field_layout places b.N _ b.reading_is g.O.ErasedCode.erased_reading_is g.O.BlockCode.K) c.args.bare.now _ loop.i loop.word loop.erased (word_read read_erased_2.result read_erased_2.new.word)
    (rw c.K-each.ensures refl) (omega arith) (mul_comm _ (length places) ∙ c.requires.places ∙ omega arith)
    (cut_long _ _ loop.erased loop.auto.erased (omega arith) ∙ sym loop.auto.word) loop.invariant
    (outer_value g c.requires.outer loop.word read_erased_2.new.word loop.erased read_erased_2.result (loop.auto.word ∙ c.requires.word) read_erased_2.ensures)

pub returns-in-Beyond-clause-value : goal.returns-in-Beyond-clause-value
unfolding word_read
returns-in-Beyond-clause-value g c = rw c.in-Beyond.is at (word_is g (goal.at.returns-in-Beyond-clause-value g c).After-read_erased-2)

pub returns-in-Found-clause-value : goal.returns-in-Found-clause-value
unfolding word_read
returns-in-Found-clause-value g c = rw c.in-Found.is at (word_is g (goal.at.returns-in-Found-clause-value g c).After-read_erased-2)

pub returns-in-Found-clause-fixes : goal.returns-in-Found-clause-fixes
returns-in-Found-clause-fixes g c = λ some fixes found.
    let same : c.field_fixes.result ≡ fixes = cc in
    sym same ∙ c.field_fixes.ensures

pub returns-in-Found-clause-most : goal.returns-in-Found-clause-most
returns-in-Found-clause-most g c = λ some fixes found.
    let b = g.I.BlockCode in
    let same : c.field_fixes.result ≡ fixes = cc in
    rw (← same, c.field_fixes.ensures) (fixes_most b.encoding_is b.N _ 24 c.args.places.now c.read_erased-2.new.word c.args.bare.now c.requires.small c.requires.there)

pub returns-in-Beyond-clause-fixes : goal.returns-in-Beyond-clause-fixes
returns-in-Beyond-clause-fixes g c = λ some fixes found. absurd (cc)

pub returns-in-Beyond-clause-most : goal.returns-in-Beyond-clause-most
returns-in-Beyond-clause-most g c = λ some fixes found. absurd (cc)
