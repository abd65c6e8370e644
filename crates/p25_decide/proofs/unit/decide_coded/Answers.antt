use Rattle.std.proofs.Common.{◌≡◌, ◌++◌, ◌/◌, List, Bool, length, ap, ap₂, ◌∙◌}
use Rattle.p25_coded_fields.specs.{Decided.{inner_words, symbols_decided}, Layouts.{field_bits}}
use Rattle.p25_gf64.specs.declared.symbol.Sym.{Sym}
use Rattle.p25_decide.specs.{LevelCosts.{field_costs}, DecidedUnits.{field_decided, with_field, with_words}}
use Rattle.p25_decide.proofs.unit.decide_coded.Goals as goal

pub returns-clause-list : goal.returns-clause-list
unfolding field_decided with_field
returns-clause-list g c =
    let b = g.I.BlockCode in
    let places = c.args.places.now in
    let levels = c.args.levels.now in
    let count = length places in
    let each = b.K / 6 in
    let costs : c.put_field_costs.new.costs ≡ field_costs b.N places levels = c.put_field_costs.ensures.list ∙ ap (λ n. field_costs n places levels) c.N-2.ensures in
    let symbols = c.decide_field.ensures.word ∙ ap (symbols_decided (inner_words count b.N each b.encoding_is) g.O.ErasedCode.erased_reading_is c.args.most) costs in
    let coded = c.put_coded.ensures.list ∙ ap₂ (λ (xs : List Bool) (ys : List Sym). xs ++ field_bits b.encoding_is each count ys) c.new-words.ensures symbols in
    c.put_words.ensures.list ∙ ap₂ (λ n (bits : List Bool). with_words n places bits c.args.bare.now) c.N-3.ensures coded
