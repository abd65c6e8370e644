use Rattle.std.proofs.Common.{◌<◌, ℕ, List, Result, Ok, Err, ap, length, subst, arith}
use Rattle.std.specs.Prelude.{[], OnErr}
use Rattle.p25_filter.specs.{declared.ending.FilterEnd.TheVariants.{WriteFault}, Futures.{Future}, Goings.{Comes, Goes}}
use Rattle.p25_filter.proofs.GoingsLaws.{Comes-cut, Goes-write}
use Rattle.p25_filter.proofs.page.flush.Goals as goal

-- a condition that holds anyway holds at an error
at-error : {T E : Type 0} (result : Result T E) (X : Type 0) → X → OnErr result X
at-error (Ok value) X x = tt
at-error (Err fault) X x = x

pub returns-in_err-write-clause-err : goal.returns-in_err-write-clause-err
returns-in_err-write-clause-err g c =
    let err = c.in_err-write.ensures.err in
    let piece = c.octets.result.now in
    let some : 0 < length piece = omega (arith, c.len.ensures.value, c.if-len-eq0.false, ap length c.octets.ensures) in
    at-error c.from_residual.result ((now : Future) → Comes g.P.Port.moves c.args.port.now c.args.page.now now [] WriteFault c.write.new.self)
    (subst (λ (zs : List ℕ). (now : Future) → Comes g.P.Port.moves c.args.port.now zs now [] WriteFault c.write.new.self) c.octets.ensures
    (λ (now : Future). Comes-cut g.met.P.Port.chain c.args.port.now c.write.new.self piece err.0 now some err.1 err.2))

pub returns-clause-ok : goal.returns-clause-ok
returns-clause-ok g c =
    let piece = c.octets.result.now in
    let some : 0 < length piece = omega (arith, c.len.ensures.value, c.if-len-eq0.false, ap length c.octets.ensures) in
    subst (λ (zs : List ℕ). (now : Future) → Goes g.P.Port.moves c.args.port.now zs now [] c.write.new.self [] now) c.octets.ensures
    (λ (now : Future). Goes-write g.met.P.Port.chain c.args.port.now c.write.new.self piece now some c.in_ok-write.ensures.ok)
