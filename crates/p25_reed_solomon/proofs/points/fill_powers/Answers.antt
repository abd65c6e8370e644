use Rattle.std.proofs.{Common.{◌+◌, ap, ap₂, sym, ◌∙◌, inl, inr, arith}, lemmas.Bool.{cases_eq}}
use Rattle.p25_gf64.specs.{Field.{power}, Symbol.{alpha}, Gf64.{gf64}}
use Rattle.p25_gf64.proofs.{FieldLaws.{mul_comm}, PowerLaws.{power-one, power-suc}}
use Rattle.p25_poly.proofs.CoefficientLaws.{written_at, written_elsewhere}
use Rattle.p25_reed_solomon.proofs.points.fill_powers.Goals as goal

pub loop-symbol-preserved : goal.loop-symbol-preserved
loop-symbol-preserved c =
    let loop = c.loop-symbol in
    let i = loop.symbol-index in
    let powers = loop.powers in (
      (λ r low. elim (cases_eq r i) [
        | inl same ↦ rw same (written_at gf64 powers i loop.power (omega arith) ∙ loop.invariant.1)
        | inr apart ↦ written_elsewhere gf64 powers i r loop.power apart ∙ loop.invariant.0 r (omega arith)
      ]),
      (c.mul-power.ensures.product
          ∙ ap₂ gf64.mul loop.invariant.1 (c.pow_alpha-alpha.ensures ∙ power-one gf64 alpha)
          ∙ mul_comm gf64 _ alpha
          ∙ sym (power-suc gf64 alpha (c.args.first + i))
          ∙ ap (power gf64 alpha) (omega arith)),
    )
