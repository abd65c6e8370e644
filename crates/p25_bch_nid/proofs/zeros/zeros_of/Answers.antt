use Rattle.std.proofs.{Common.{◌≡◌, ℕ, ◌-◌, ◌<◌, inl, inr, ap, sym, ◌∙◌, arith}, lemmas.Bool.{cases_lt}, lemmas.List.{get_or_read}}
use Rattle.std.specs.Int.{bit_at}
use Rattle.p25_gf64.specs.{Symbol.{number}, Gf64.{gf64}}
use Rattle.p25_algebra.specs.Series.{coefficient, value_at}
use Rattle.p25_bch_nid.proofs.ZerosSteps.{point, plane_none, plane_more, or_none, none_or, vanishes_exactly}
use Rattle.p25_bch_nid.proofs.zeros.zeros_of.Goals as goal

pub loop-k-init : goal.loop-k-init
loop-k-init c = λ e low. plane_none c.args.polynomial.now e c.loop-p.p

pub loop-k-preserved : goal.loop-k-preserved
loop-k-preserved c =
    let index_polynomial_k = c.index-polynomial-k in
    let loop = c.loop-k in
    λ e low.
    plane_more c.args.polynomial.now loop.k c.loop-p.p loop.sum e c.value-symbol.result index_polynomial_k.result (omega arith) (omega arith) low
    (get_or_read c.args.polynomial.now loop.k index_polynomial_k.result (omega arith) index_polynomial_k.is gf64.zero) c.value-symbol.ensures.number (loop.invariant e low)

pub loop-p-preserved : goal.loop-p-preserved
loop-p-preserved c =
    let all : c.loop-k.k ≡ 12 = omega arith in
    let plane : (e : ℕ) → e < 63 → bit_at c.loop-k.sum e ≡ bit_at (number (value_at gf64 12 (coefficient gf64 c.args.polynomial.now) (point e))) c.loop-p.p
    = λ e low. cc (c.loop-k.invariant e low, all) in
    record {
      zeros = λ e low none q below.
          let both = or_none c.loop-p.some c.loop-k.sum e none in
          elim (cases_lt q c.loop-p.p) [
            | inl lower ↦ c.loop-p.invariant.zeros e low both.0 q lower
            | inr last ↦
                let same : q ≡ c.loop-p.p = omega arith in
                cc (same, plane e low, both.1)
          ];
      all = λ e low none.
          none_or c.loop-p.some c.loop-k.sum e (c.loop-p.invariant.all e low (λ q below. none q (omega arith))) (plane e low ∙ none c.loop-p.p (omega arith));
    }

pub returns-clause-zeros : goal.returns-clause-zeros
returns-clause-zeros c = λ j low.
    let e = 63 - 1 - j in
    let inside : e < 63 = omega arith in
    vanishes_exactly c.loop-p.some _ e inside (omega arith)
    (λ none q below. c.loop-p.invariant.zeros e inside none q (omega arith))
    (λ none. c.loop-p.invariant.all e inside (λ q below. none q (omega arith)))
