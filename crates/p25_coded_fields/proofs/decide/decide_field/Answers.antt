use Rattle.std.proofs.Common.{◌≡◌, ◌*◌, ◌/◌, ◌<◌, ◌≤◌, length, ap, sym, ◌∙◌, arith}
use Rattle.std.proofs.Math.Nat.{mul_comm}
use Rattle.std.specs.Option.{is_some}
use Rattle.p25_coded_fields.specs.Decided.{inner_words, symbols_decided, word_decided}
use Rattle.p25_coded_fields.proofs.{FixesLaws.{few_places}, ReadLaws.{cut_long}}
use Rattle.p25_coded_fields.proofs.decide.decide_field.Goals as goal

pub returns-clause-word : goal.returns-clause-word
returns-clause-word g c =
    let b = g.I.BlockCode in
    let some : 0 < b.K / 6 = omega arith in
    let few : c.args.count ≤ 36 = few_places (b.K / 6) c.args.count some (omega (arith, mul_comm (b.K / 6) c.args.count)) in
    let long = sym c.decide_words.auto.infos ∙ cut_long c.args.count _ c.decide_words.new.infos c.decide_words.auto.infos (omega arith) in
    c.decide_words.ensures.word
    ∙ ap (λ n. symbols_decided (inner_words n b.N (b.K / 6) b.encoding_is) g.O.ErasedCode.erased_reading_is c.args.most c.args.costs.now) long

pub returns-clause-found : goal.returns-clause-found
returns-clause-found g c =
    let b = g.I.BlockCode in
    let some : 0 < b.K / 6 = omega arith in
    let few : c.args.count ≤ 36 = few_places (b.K / 6) c.args.count some (omega (arith, mul_comm (b.K / 6) c.args.count)) in
    let long = sym c.decide_words.auto.infos ∙ cut_long c.args.count _ c.decide_words.new.infos c.decide_words.auto.infos (omega arith) in
    c.decide_words.ensures.found
    ∙ ap (λ n. is_some (word_decided (inner_words n b.N (b.K / 6) b.encoding_is) g.O.ErasedCode.erased_reading_is c.args.most c.args.costs.now)) long
