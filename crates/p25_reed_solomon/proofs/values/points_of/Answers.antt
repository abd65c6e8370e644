use Rattle.std.proofs.{Common.{◌∙◌, inl, inr, arith}, lemmas.Bool.{cases_eq}, lemmas.List.{length-set}}
use Rattle.p25_gf64.specs.Gf64.{gf64}
use Rattle.p25_poly.proofs.CoefficientLaws.{written_at, written_elsewhere}
use Rattle.p25_reed_solomon.specs.ElementLaws.{point-power}
use Rattle.p25_reed_solomon.proofs.values.points_of.Goals as goal

pub loop-c-preserved : goal.loop-c-preserved
loop-c-preserved c =
    let loop = c.loop-c in
    let i = loop.c in (
      length-set loop.points i c.pow_alpha.result ∙ loop.invariant.0,
      λ k low. elim (cases_eq k i) [
        | inl same ↦ rw same
            (written_at gf64 loop.points i c.pow_alpha.result (omega arith)
            ∙ c.pow_alpha.ensures
            ∙ point-power c.args.n _ c.requires.places (c.requires.inside i (omega arith)))
        | inr apart ↦ written_elsewhere gf64 loop.points i k c.pow_alpha.result apart ∙ loop.invariant.1 k (omega arith)
      ],
    )
