use Rattle.std.proofs.Common.{◌≡◌, ◌+◌, ◌-◌, ◌∙◌, sym, ap, arith}
use Rattle.p25_gf64.specs.{Field.{power}, Symbol.{alpha}, Gf64.{gf64}}
use Rattle.p25_gf64.proofs.{FieldLaws.{zero_mul}, TableLaws.{quotient_by_logarithms, quotient_from_product, power_again}}
use Rattle.p25_gf64.proofs.symbol.Sym.div.Goals as goal

pub returns-then-is_zero-clause-product : goal.returns-then-is_zero-clause-product
returns-then-is_zero-clause-product c =
    let none = c.is_zero.ensures.0 c.if-is_zero.true in
    ap (λ w. gf64.mul w c.args.other) none ∙ zero_mul gf64 c.args.other ∙ sym none

pub returns-then-is_zero-clause-quotient : goal.returns-then-is_zero-clause-quotient
returns-then-is_zero-clause-quotient c = quotient_from_product c.args.self c.args.self c.args.other c.requires (returns-then-is_zero-clause-product c)

pub returns-then-exponent-lt63-clause-product : goal.returns-then-exponent-lt63-clause-product
returns-then-exponent-lt63-clause-product c =
    let a = c.logarithm.result in
    let b = c.logarithm-2.result in
    let whole : 63 + a - b + b ≡ 63 + a = omega (arith, c.logarithm-2.ensures.below) in
    ap (λ w. gf64.mul w c.args.other) c.power_below.ensures
    ∙ quotient_by_logarithms c.args.self c.args.other b (63 + a - b) c.requires (ap (power gf64 alpha) whole ∙ power_again a ∙ c.logarithm.ensures.power) c.logarithm-2.ensures.power

pub returns-then-exponent-lt63-clause-quotient : goal.returns-then-exponent-lt63-clause-quotient
returns-then-exponent-lt63-clause-quotient c = quotient_from_product c.power_below.result c.args.self c.args.other c.requires (returns-then-exponent-lt63-clause-product c)

pub returns-clause-product : goal.returns-clause-product
returns-clause-product c =
    let a = c.logarithm.result in
    let b = c.logarithm-2.result in
    let whole : 63 + a - b - 63 + b ≡ a = omega (arith, c.logarithm-2.ensures.below, c.if-exponent-lt63.false) in
    ap (λ w. gf64.mul w c.args.other) c.power_below-2.ensures
    ∙ quotient_by_logarithms c.args.self c.args.other b (63 + a - b - 63) c.requires (ap (power gf64 alpha) whole ∙ c.logarithm.ensures.power) c.logarithm-2.ensures.power

pub returns-clause-quotient : goal.returns-clause-quotient
returns-clause-quotient c = quotient_from_product c.power_below-2.result c.args.self c.args.other c.requires (returns-clause-product c)
