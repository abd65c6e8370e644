use Rattle.std.proofs.{Common.{◌≡◌, ℕ, ◌<◌, List, length, get_or-set_same, ap, ap₂, sym, ◌∙◌, inl, inr, arith, refl}, lemmas.Bool.{cases_eq, iff_false}}
use Rattle.std.proofs.lemmas.List.{get_or_default, length-set}
use Rattle.p25_gf64.specs.{declared.symbol.Sym.{Sym}, Gf64.{gf64}}
use Rattle.p25_gf64.proofs.{FieldLaws.{add_self, mul_one, same_from_sum}, PowerLaws.{power-zero}}
use Rattle.p25_algebra.specs.{Sums.{sum_below}, Series.{coefficient}}
use Rattle.p25_algebra.proofs.SumLaws.{sum-none}
use Rattle.p25_reed_solomon.proofs.ListLaws.{sum_of_terms, term_next, multiplied_more}
use Rattle.p25_reed_solomon.proofs.sums.are_sums.Goals as goal

pub loop-syndrome-init : goal.loop-syndrome-init
loop-syndrome-init c = record {
  full = c.copy_from_slice.ensures.len;
  terms = λ k low.
      ap (λ (s : List Sym). coefficient gf64 s k) c.copy_from_slice.ensures.after
      ∙ sym (ap (gf64.mul (coefficient gf64 c.args.values.now k)) (power-zero gf64 (coefficient gf64 c.elements_of-elements.result k)) ∙ mul_one gf64 (coefficient gf64 c.args.values.now k));
  sums = λ r low. absurd (omega arith);
}

pub loop-r-init : goal.loop-r-init
loop-r-init c = (c.loop-syndrome.invariant.full, record { before = λ k low. absurd (omega arith); after = λ k from. refl; total = c.default-sum.ensures ∙ sym (sum-none gf64 _) })

pub loop-r-preserved : goal.loop-r-preserved
loop-r-preserved c =
    let loop = c.loop-r in (
      length-set loop.terms loop.r c.mul.result ∙ loop.invariant.0,
      rw (c.add-sum.ensures.sum ∙ ap (gf64.add loop.sum) (get_or-set_same loop.terms loop.r c.mul.result _ (omega arith)))
          (multiplied_more loop.r c.elements_of-elements.result c.loop-syndrome.terms loop.terms loop.sum c.mul.result (omega arith)
          (c.mul.ensures.product
          ∙ ap₂ gf64.mul (get_or_default loop.terms loop.r _ gf64.zero (omega arith)) (get_or_default c.elements_of-elements.result loop.r _ gf64.zero (omega arith)))
          loop.invariant.1),
    )

pub returns-then-not-is_zero : goal.returns-then-not-is_zero
returns-then-not-is_zero c =
    let loop = c.loop-r in
    let i = c.loop-syndrome.syndrome-index in
    let all : loop.r ≡ 32 = omega arith in (
      (λ no'. cc),
      (λ sums. absurd (iff_false c.is_zero.ensures c.if-not-is_zero.true
          (c.add.ensures.sum ∙ ap₂ gf64.add (cc (
            loop.invariant.1.total,
            all,
            sum_of_terms _ c.elements_of-elements.result c.args.values.now c.loop-syndrome.terms loop.terms _ i
                (omega arith) c.elements_of-elements.ensures.elements c.requires.rest c.loop-syndrome.invariant.terms (λ k low. loop.invariant.1.before k (omega (arith, low, all))),
            sums i (omega arith),
          )) (c.syndrome-item.is ∙ get_or_default c.args.syndromes.now _ _ gf64.zero (omega arith)) ∙ add_self gf64 _))),
    )

pub loop-syndrome-preserved : goal.loop-syndrome-preserved
loop-syndrome-preserved c =
    let i = c.loop-syndrome.syndrome-index in
    let all : c.loop-r.r ≡ 32 = omega arith in
    let next : (k : ℕ) → k < 32 → coefficient gf64 c.loop-r.terms k ≡ gf64.mul (coefficient gf64 c.loop-syndrome.terms k) (coefficient gf64 c.elements_of-elements.result k)
    = λ k low. c.loop-r.invariant.1.before k (omega (arith, low, all)) in
    let sum = c.loop-r.invariant.1.total
    ∙ ap (λ m. sum_below gf64 m (coefficient gf64 c.loop-r.terms)) all
    ∙ sum_of_terms (length c.args.places.now) c.elements_of-elements.result c.args.values.now c.loop-syndrome.terms c.loop-r.terms _ i
    (omega arith) c.elements_of-elements.ensures.elements c.requires.rest c.loop-syndrome.invariant.terms next in
    let here = c.syndrome-item.is ∙ get_or_default c.args.syndromes.now _ _ gf64.zero (omega arith) in
    record {
      full = c.loop-r.invariant.0;
      terms = λ k low. term_next _
          _ _ _ i
          (c.loop-syndrome.invariant.terms k low) (next k low);
      sums = λ r low. elim (cases_eq r i) [
        | inl same ↦
            cc (same, sum, same_from_sum gf64 c.loop-r.sum c.syndrome-item.result (sym c.add.ensures.sum ∙ c.is_zero.ensures.0 c.if-not-is_zero.false), here, same)
        | inr apart ↦ c.loop-syndrome.invariant.sums r (omega arith)
      ];
    }
