use Rattle.std.proofs.{Common.{◌-◌, length, ap₂, sym, ◌∙◌, arith}, lemmas.List.{length-replicate}}
use Rattle.p25_gf64.specs.Gf64.{gf64}
use Rattle.p25_algebra.specs.Series.{coefficient, rest_at}
use Rattle.p25_poly.proofs.CoefficientLaws.{coefficient_blank, coefficient_read, horner_step}
use Rattle.p25_reed_solomon.proofs.ListLaws.{value_begun, value_whole, rest_here}
use Rattle.p25_reed_solomon.proofs.values.slopes_of.Goals as goal

pub loop-i-init : goal.loop-i-init
loop-i-init c =
    let points = c.args.points.now in
    let n = length c.args.polynomial.now in
    let f = coefficient gf64 c.args.polynomial.now in
    record {
      slopes_full = length-replicate 32 c.default-slopes.result;
      values_full = length-replicate 32 c.default-values.result;
      slopes = λ r low. coefficient_blank gf64 c.default-slopes.result 32 r c.default-slopes.ensures
          ∙ sym (value_begun n (rest_at gf64 n f _) _);
      values = λ r low. coefficient_blank gf64 c.default-values.result 32 r c.default-values.ensures ∙ sym (value_begun n f _);
    }

pub loop-i-preserved : goal.loop-i-preserved
loop-i-preserved c =
    let points = c.args.points.now in
    let held = c.loop-i.invariant in
    let polynomial = c.args.polynomial.now in
    let n = length polynomial in
    let f = coefficient gf64 polynomial in
    let i = c.loop-i.i in
    record {
      slopes_full = c.loop-r.invariant.full;
      values_full = omega (arith, held.values_full);
      slopes = λ r low.
          c.loop-r.invariant.before r (omega arith)
          ∙ ap₂ (λ v s. gf64.add (gf64.mul v (coefficient gf64 points r)) s)
          (held.slopes r low) (held.values r low ∙ rest_here n i f _ (omega arith))
          ∙ horner_step gf64 (rest_at gf64 n f (coefficient gf64 points r)) n i (coefficient gf64 points r) (omega arith) (omega arith);
      values = λ r low.
          c.horner_step.ensures r (omega (arith, held.values_full))
          ∙ ap₂ (λ v s. gf64.add (gf64.mul v (coefficient gf64 points r)) s) (held.values r low)
          (coefficient_read gf64 polynomial (i - 1) c.index-polynomial-i.result (omega arith) c.index-polynomial-i.is)
          ∙ horner_step gf64 f n i (coefficient gf64 points r) (omega arith) (omega arith);
    }

pub returns-clause-slopes : goal.returns-clause-slopes
returns-clause-slopes c = λ r low.
    c.loop-i.invariant.slopes r low ∙ value_whole (length c.args.polynomial.now) c.loop-i.i
    _ _ (omega arith)
