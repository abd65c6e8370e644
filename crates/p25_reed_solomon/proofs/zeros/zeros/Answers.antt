use Rattle.std.proofs.{Common.{◌+◌, length, ap, sym, ◌∙◌, subst, arith}, lemmas.Bool.{iff_false}, lemmas.List.{get_or_default}}
use Rattle.p25_gf64.specs.Gf64.{gf64}
use Rattle.p25_algebra.specs.Series.{coefficient, value_at}
use Rattle.p25_reed_solomon.specs.{Errors.{AreZeros}, ElementLaws.{point-power}}
use Rattle.p25_reed_solomon.proofs.{ZerosSteps.{AreZeros-few, AreZeros-none, AreZeros-push, AreZeros-skip}, zeros.zeros.Goals.{then-is_zero, else-is_zero}}
use Rattle.p25_reed_solomon.proofs.zeros.zeros.Goals as goal

pub loop-j-init : goal.loop-j-init
loop-j-init c = rw c.new-places.ensures (AreZeros-none c.args.n c.args.polynomial.now)

pub push-requires : goal.push-requires
push-requires c =
    let few = AreZeros-few c.args.n c.loop-j.j c.args.polynomial.now c.loop-j.places.items c.requires.places (omega arith) c.loop-j.invariant c.requires.nonzero in
    (omega arith, omega arith)

pub loop-j-preserved : goal.loop-j-preserved
loop-j-preserved c =
    let loop = c.loop-j in
    let n = c.args.n in
    let polynomial = c.args.polynomial.now in
    let j = loop.j in
    let here = get_or_default c.fill_values.new.values j _ gf64.zero (omega arith) ∙ c.fill_values.ensures j (omega arith)
    ∙ ap (value_at gf64 (length polynomial) (coefficient gf64 polynomial)) (c.fill_powers.ensures j (omega arith) ∙ point-power n j c.requires.places (omega arith)) in
    elim c.if-is_zero.branch [
      | then-is_zero w ↦
          rw (sym (ap (λ v. v.items) w.places-is ∙ w.push.ensures.items)) at (AreZeros-push n polynomial j loop.places.items loop.invariant (sym here ∙ c.is_zero.ensures.0 w.if-is_zero.true))
      | else-is_zero w ↦
          subst (λ ps. AreZeros n polynomial (j + 1) ps) (sym (rw w.places-is))
          (AreZeros-skip n polynomial j loop.places.items loop.invariant (λ z. iff_false c.is_zero.ensures w.if-is_zero.false (here ∙ z)))
    ]

pub returns-clause-few : goal.returns-clause-few
returns-clause-few c = AreZeros-few c.args.n c.loop-j.j c.args.polynomial.now c.loop-j.places.items c.requires.places (omega arith) c.loop-j.invariant c.requires.nonzero
