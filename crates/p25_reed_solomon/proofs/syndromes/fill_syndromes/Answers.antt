use Rattle.std.proofs.Common.{sym, ap, ap₂, ◌∙◌, arith}
use Rattle.p25_gf64.specs.{Field.{power}, Symbol.{alpha}, Gf64.{gf64}}
use Rattle.p25_algebra.specs.Series.{coefficient}
use Rattle.p25_algebra.proofs.SumLaws.{sum-none}
use Rattle.p25_poly.proofs.CoefficientLaws.{coefficient_blank, coefficient_read}
use Rattle.p25_reed_solomon.specs.ValueLaws.{front_value, front_value-suc}
use Rattle.p25_reed_solomon.proofs.syndromes.fill_syndromes.Goals as goal

pub loop-symbol-init : goal.loop-symbol-init
loop-symbol-init c = λ r low.
    ap (λ s. coefficient gf64 s r) (c.fill.ensures.after (λ y e. e)) ∙ coefficient_blank gf64 c.default.result _ r c.default.ensures ∙ sym (sum-none gf64 _)

pub loop-symbol-preserved : goal.loop-symbol-preserved
loop-symbol-preserved c =
    let index_here = c.loop-symbol.symbol-index in
    let word = c.args.word.now in
    λ r low.
    c.horner_step.ensures r (omega arith)
    ∙ ap₂ gf64.add (ap₂ gf64.mul (c.loop-symbol.invariant r low) (c.fill_powers.ensures r (omega arith) ∙ ap (power gf64 alpha) (omega arith)))
    (coefficient_read gf64 word index_here c.symbol-item.result (omega arith) c.symbol-item.is)
    ∙ sym (front_value-suc (coefficient gf64 word) _ index_here)
    ∙ ap (front_value (coefficient gf64 word) _) (omega arith)
