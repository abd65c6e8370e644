use Rattle.std.proofs.{Common.{◌-◌, ◌∙◌, refl, ap, ap₂, arith}, lemmas.List.{get_or_default}}
use Rattle.p25_gf64.specs.Gf64.{gf64}
use Rattle.p25_poly.specs.Polynomial.{coefficient_of}
use Rattle.p25_poly.proofs.{CoefficientLaws.{coefficient_blank}, DivisionLaws.{divided_none, divided_step}, PolyLaws.{divided_all, unique_division}}
use Rattle.p25_poly.proofs.polynomial.Poly.divide.Goals as goal

pub loop-shift-init : goal.loop-shift-init
loop-shift-init c =
    let low = rw c.unwrap-degree.ensures at c.degree.ensures.below in
    divided_none gf64 (64 - c.unwrap-degree.result) (coefficient_of c.args.by.now) c.unwrap-degree.result _ c.args.self.now.coefficients (omega arith) refl c.args.self.now.full
    (λ k. coefficient_blank gf64 c.default-quotient.result 64 k c.default-quotient.ensures)

pub loop-shift-preserved : goal.loop-shift-preserved
loop-shift-preserved c =
    let loop = c.loop-shift in
    let degree_here = c.unwrap-degree in
    let by = c.args.by.now in
    let low = rw degree_here.ensures at c.degree.ensures.below in
    let top = rw degree_here.ensures at c.degree.ensures.some in
    divided_step gf64 loop.shift (loop.shift - 1) (omega arith) (coefficient_of c.args.self.now)
    (coefficient_of by) degree_here.result loop.quotient loop.remainder c.add_multiple.new.into c.mul-factor.result (omega arith) top (omega arith)
    (c.mul-factor.ensures.product ∙ ap₂ gf64.mul (get_or_default loop.remainder _ _ gf64.zero (omega arith))
    (c.inv-inverse.ensures.inverse ∙ ap gf64.inverse (get_or_default by.coefficients degree_here.result _ gf64.zero (omega (arith, low, by.full)))))
    c.add_multiple.ensures loop.invariant

pub returns-clause-unique : goal.returns-clause-unique
returns-clause-unique c =
    let loop = c.loop-shift in
    let top = rw c.unwrap-degree.ensures at c.degree.ensures.some in
    λ quotient remainder division. unique_division c.unwrap-degree.result c.args.self.now c.args.by.now quotient remainder _ _ top division
    (divided_all loop.shift c.unwrap-degree.result c.args.self.now c.args.by.now loop.quotient loop.remainder _ _ (omega arith) top loop.invariant)
