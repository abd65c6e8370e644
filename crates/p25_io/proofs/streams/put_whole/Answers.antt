use Rattle.std.proofs.{Common.{ℕ, ◌<◌, List, [], ◌∷◌, length, take, drop, ◌-◌, arith, ap, refl, subst, length-drop, length-take}, lemmas.List.{take_all, take_rest}}
use Rattle.p25_io.specs.{Asked.{Took}, Events.{Wrote, WriteFailed}}
use Rattle.p25_io.proofs.StreamsSteps.{Took-answered, Took-next, Took-nothing, Took-some, Took-then}
use Rattle.p25_io.proofs.streams.put_whole.Goals as goal

pub loop-done-preserved : goal.loop-done-preserved
loop-done-preserved g c =
    let piece = c.args.piece.now in
    let done = c.loop-done.done in
    let count = c.in-Ok.count in
    let rest = take (length piece - done) (drop done piece) in
    let fits = rw (take_rest piece done, length-drop) at c.in-Ok.ensures.fits in
    let some : 0 < length (take count rest) = omega (arith, length-take count rest, c.in-Ok.ensures.fits, c.if-count-eq0.false) in (
      omega (arith, fits, c.loop-done.invariant.0),
      Took-next g.W.Write.contents _ _ _ piece done count c.loop-done.invariant.1
          (Took-some g.W.Write.contents _ _ (take count rest) some c.in-Ok.ensures.ok),
    )

pub returns-in_default-clause-err : goal.returns-in_default-clause-err
returns-in_default-clause-err g c =
    let rest = take (length c.args.piece.now - c.loop-done.done) (drop c.loop-done.done c.args.piece.now) in (
      c.loop-done.invariant.0,
      Took-then g.W.Write.contents _ _ _ _ 0 1 c.loop-done.invariant.1
          (Took-answered g.W.Write.contents _ _ [] (WriteFailed rest 0 ∷ []) [] c.in_default.ensures.err refl),
    )

pub returns-then-count-eq0-clause-err : goal.returns-then-count-eq0-clause-err
returns-then-count-eq0-clause-err g c =
    let rest = take (length c.args.piece.now - c.loop-done.done) (drop c.loop-done.done c.args.piece.now) in (
      c.loop-done.invariant.0,
      Took-then g.W.Write.contents _ _ _ _ 0 1 c.loop-done.invariant.1
          (Took-nothing g.W.Write.contents _ _ (take c.in-Ok.count rest) (ap (λ (n : ℕ). take n rest) c.if-count-eq0.true) c.in-Ok.ensures.ok),
    )

pub returns-in-Ok-flush-clause-ok : goal.returns-in-Ok-flush-clause-ok
returns-in-Ok-flush-clause-ok g c =
    let piece = c.args.piece.now in
    subst (λ (octets : List ℕ). Took g.W.Write.contents c.args.writer.now octets 1 0 c.flush.new.self) (take_all c.loop-done.done piece (omega arith))
    (Took-then g.W.Write.contents _ _ _ _ 1 0 c.loop-done.invariant.1
    (Took-answered g.W.Write.contents _ _ [] [] (Wrote [] ∷ []) c.in-Ok-flush.ensures.ok refl))

pub returns-in-Err-clause-err : goal.returns-in-Err-clause-err
returns-in-Err-clause-err g c = (
  c.loop-done.invariant.0,
  Took-then g.W.Write.contents _ _ _ _ 0 1 c.loop-done.invariant.1
      (Took-answered g.W.Write.contents _ _ [] [] (WriteFailed [] 0 ∷ []) c.in-Err.ensures.err refl),
)
