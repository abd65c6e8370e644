use Rattle.std.proofs.{Common.{List, ap, ap₂, sym, ◌∙◌, inl, inr, arith}, lemmas.Bool.{cases_eq}, lemmas.List.{get_or_default}}
use Rattle.p25_gf64.specs.{declared.symbol.Sym.{Sym}, Gf64.{gf64}}
use Rattle.p25_algebra.specs.Series.{coefficient}
use Rattle.p25_poly.proofs.CoefficientLaws.{coefficient_blank, written_at, written_elsewhere}
use Rattle.p25_reed_solomon.proofs.values.fill_errors.Goals.{then-not-is_zero, else-not-is_zero}
use Rattle.p25_reed_solomon.proofs.values.fill_errors.Goals as goal

pub loop-c-init : goal.loop-c-init
loop-c-init c = record {
  errors = λ k low live. absurd (omega arith);
  rest = λ k from. ap (λ (s : List Sym). coefficient gf64 s k) (c.fill.ensures.after (λ y e. e)) ∙ coefficient_blank gf64 c.default.result _ k c.default.ensures;
}

pub loop-c-preserved : goal.loop-c-preserved
loop-c-preserved c =
    let loop = c.loop-c in
    let slopes_here = c.slopes_of-slopes.result in
    let i = loop.c in
    elim c.if-not-is_zero.branch [
      | then-not-is_zero w ↦ rw w.out-is (record {
        errors = λ k low live. elim (cases_eq k i) [
          | inl same ↦ rw same
              (ap₂ gf64.mul (written_at gf64 loop.out i w.div.result (omega arith)) (sym (get_or_default slopes_here i _ gf64.zero (omega arith)))
              ∙ w.div.ensures.product
              ∙ get_or_default c.fill_values.new.values i _ gf64.zero (omega arith))
          | inr apart ↦ cc (written_elsewhere gf64 loop.out i k w.div.result apart, loop.invariant.errors k (omega arith) live)
        ];
        rest = λ k from. written_elsewhere gf64 loop.out i k w.div.result (omega arith) ∙ loop.invariant.rest k (omega arith);
      })
      | else-not-is_zero w ↦ rw w.out-is (record {
        errors = λ k low live. elim (cases_eq k i) [
          | inl same ↦ absurd (live (cc (same, get_or_default slopes_here i _ gf64.zero (omega arith), c.is_zero.ensures.0 w.if-not-is_zero.false)))
          | inr apart ↦ loop.invariant.errors k (omega arith) live
        ];
        rest = λ k from. loop.invariant.rest k (omega arith);
      })
    ]
