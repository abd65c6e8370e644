use Rattle.std.proofs.Common.{◌≡◌, suc, ◌+◌, List, length, ap, sym, ◌∙◌, arith}
use Rattle.p25_gf64.specs.{declared.symbol.Sym.{Sym}, Gf64.{gf64}}
use Rattle.p25_algebra.specs.Series.{coefficient, times_linear}
use Rattle.p25_reed_solomon.specs.Locator.{times_erasures}
use Rattle.p25_reed_solomon.proofs.ErasuresLaws.{times_erasures-without, times_erasures-none, times_erasures-gone, times_erasures-kept, times_linear_agree}
use Rattle.p25_reed_solomon.proofs.erasures.multiply_by_erasures.Goals.{then-erased-j+else-loop-i-test, else-erased-j}
use Rattle.p25_reed_solomon.proofs.erasures.multiply_by_erasures.Goals as goal

pub returns-then-erasures-eq0 : goal.returns-then-erasures-eq0
returns-then-erasures-eq0 c =
    let n = length c.args.erased.now in
    λ k low. sym (rw (times_erasures-without n c.args.erased.now n _ (omega (arith, c.requires.count, c.if-erasures-eq0.true))))

pub loop-j-init : goal.loop-j-init
loop-j-init c = λ k low. sym (rw (times_erasures-none))

pub loop-j-preserved : goal.loop-j-preserved
loop-j-preserved c =
    let erased = c.args.erased.now in
    let loop = c.loop-j in
    let n = length erased in
    let old = coefficient gf64 c.args.polynomial.now in
    let j = loop.j in
    let next : suc j ≡ j + 1 = omega arith in
    elim c.if-erased-j.branch [
      | then-erased-j+else-loop-i-test w ↦ λ k low.
          ap (λ (p : List Sym). coefficient gf64 p k) w.polynomial-is
          ∙ w.loop-i.invariant.before k (omega (arith, w.loop-i-test.false))
          ∙ ap (λ b. gf64.add (coefficient gf64 loop.polynomial k) (gf64.mul w.pow_alpha-element.result b)) (w.moved_up-below.ensures.moved k)
          ∙ ap (λ y. times_linear gf64 y (coefficient gf64 loop.polynomial) k) w.pow_alpha-element.ensures
          ∙ times_linear_agree n erased _ 32 _ (times_erasures n erased j old) loop.invariant k low
          ∙ sym (rw (times_erasures-gone n erased j old w.if-erased-j.true))
          ∙ ap (λ m. times_erasures n erased m old k) next
      | else-erased-j w ↦ λ k low.
          cc (w.polynomial-is, loop.invariant k low, times_erasures-kept n erased j old w.if-erased-j.false, next)
    ]
