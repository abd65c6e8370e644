use Rattle.std.proofs.{Common.{◌∙◌, refl, sym, arith}, lemmas.List.{get_or_default}}
use Rattle.p25_gf64.specs.Gf64.{gf64}
use Rattle.p25_algebra.proofs.SumLaws.{sum-none}
use Rattle.p25_poly.specs.Polynomial.{coefficient_of}
use Rattle.p25_poly.proofs.CoefficientLaws.{coefficient_blank, rows_are_product, rows_step, short_list}
use Rattle.p25_poly.proofs.polynomial.Poly.mul.Goals as goal

pub loop-i-init : goal.loop-i-init
loop-i-init c =
    (refl, λ k low. coefficient_blank gf64 c.default-coefficients.result 64 k c.default-coefficients.ensures ∙ sym (sum-none gf64 _))

pub loop-i-preserved : goal.loop-i-preserved
loop-i-preserved c = (
  omega arith,
  λ k low.
      rows_step gf64 c.loop-i.i (coefficient_of c.args.self.now) (coefficient_of c.args.other.now) _ _ _ k
      (get_or_default c.args.self.now.coefficients c.loop-i.i _ gf64.zero (omega arith))
      (c.add_multiple.ensures k (omega arith))
      (c.loop-i.invariant.1 k low),
)

pub returns : goal.returns
returns c =
    rows_are_product gf64 64 c.loop-i.i (coefficient_of c.args.self.now)
    (coefficient_of c.args.other.now) _ (omega arith) (short_list gf64 64 _ c.args.self.now.full) (short_list gf64 64 _ c.args.other.now.full)
    (short_list gf64 64 _ c.loop-i.invariant.0) c.requires c.loop-i.invariant.1
