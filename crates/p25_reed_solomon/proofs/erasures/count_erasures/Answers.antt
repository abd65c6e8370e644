use Rattle.std.proofs.Common.{◌≡◌, suc, ◌+◌, sym, subst, arith}
use Rattle.p25_reed_solomon.specs.Errors.{erased_below}
use Rattle.p25_reed_solomon.proofs.{ErasuresLaws.{erased_below-none, erased_below-gone, erased_below-kept}, erasures.count_erasures.Goals.{then-gone, else-gone}}
use Rattle.p25_reed_solomon.proofs.erasures.count_erasures.Goals as goal

pub loop-gone-init : goal.loop-gone-init
loop-gone-init c = (sym (erased_below-none c.args.erased.now), omega arith)

pub loop-gone-preserved : goal.loop-gone-preserved
loop-gone-preserved c =
    let index_here = c.loop-gone.gone-index in
    let erased = c.args.erased.now in
    let next : suc index_here ≡ index_here + 1 = omega arith in
    elim c.if-gone.branch [
      | then-gone w ↦ (
        subst (λ m. c.if-gone.count ≡ erased_below erased m) next
            (omega (arith, w.count-is, erased_below-gone erased)),
        omega (arith, w.count-is),
      )
      | else-gone w ↦ (
        subst (λ m. c.if-gone.count ≡ erased_below erased m) next
            (omega (arith, w.count-is, erased_below-kept erased)),
        omega (arith, w.count-is),
      )
    ]
