use Rattle.std.proofs.{Common.{arith, sym, subst, length-drop}, lemmas.List.{take_rest}, KnownBytes.{Appends-trans}}
use Rattle.std.specs.Io.KnownBytes.{Appends}
use Rattle.p25_io.proofs.StreamsSteps.{take-done_next}
use Rattle.p25_io.proofs.write_sink.write_whole.Goals as goal

pub loop-done-preserved : goal.loop-done-preserved
loop-done-preserved g c =
    let piece = c.args.piece.now in
    let done = c.loop-done.done in
    let grown = Appends-trans _ _ _ _ _ c.loop-done.invariant.1 c.in-Ok.ensures.bytes in
    let fits = rw (take_rest piece done, length-drop) at c.in-Ok.ensures.bound in
    (omega arith, subst (Appends _ _) (sym (take-done_next piece done c.in-Ok.count)) grown)
