use Rattle.std.proofs.Common.{◌≡◌, ◌+◌, ℕ, refl, ap, ap₂, sym, ◌∙◌, arith}
use Rattle.p25_vectors.specs.Samples.{sample_flips}
use Rattle.p25_vectors.proofs.SampleLaws.{flips_of-none, flips_of-more}
use Rattle.p25_vectors.proofs.report.sample.Goals as goal

pub loop-given-init : goal.loop-given-init
loop-given-init c = record { sampler = c.new-sampler.ensures; units = refl; flips = sym flips_of-none; few = omega arith; exact = refl }

pub loop-given-preserved : goal.loop-given-preserved
loop-given-preserved c =
    let i = c.loop-given._given in
    let is = c.loop-given.invariant in
    let flips : c.from.result ≡ sample_flips i = c.from.ensures ∙ c.next-unit.ensures.flips ∙ ap sample_flips is.sampler in
    let one : c.from-in-loop-given.result ≡ 1 = c.from-in-loop-given.ensures ∙ ap mir.Val.bool_byte c.reads_as.ensures in
    record {
      sampler = c.next-unit.ensures.given ∙ ap (λ (n : ℕ). n + 1) is.sampler;
      units = ap (λ (n : ℕ). n + 1) is.units;
      flips = ap₂ (λ (a b : ℕ). a + b) is.flips flips ∙ sym (flips_of-more i);
      few = omega (arith, is.few, c.from.ensures);
      exact = ap₂ (λ (a b : ℕ). a + b) is.exact one;
    }
