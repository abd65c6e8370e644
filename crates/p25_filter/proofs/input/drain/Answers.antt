use Rattle.std.proofs.Common.{[], refl, sym, subst, arith, ◌∙◌}
use Rattle.p25_filter.specs.{Futures.{Future}, Goings.{Goes}}
use Rattle.p25_filter.proofs.{GoingsLaws.{Comes-after, Goes-none, Goes-trans}, InputLaws.{may-end, piece-given, piece-none, piece-refused, wants-memory}}
use Rattle.p25_filter.proofs.input.drain.Goals as goal

pub loop-page-preserved : goal.loop-page-preserved
loop-page-preserved g c =
    let progress = piece-given _ _ _ _ c.in-Ok-true.ensures.piece c.in-Ok-true.field-0-test in
    record {
      goes = Goes-trans g.met.P.Port.chain [] [] c.loop-page.invariant.goes (c.in-Ok.ensures.ok _ _ progress);
      same = c.next.ensures.same ∙ c.loop-page.invariant.same;
      size = omega (arith, c.next.ensures.size, c.loop-page.invariant.size);
    }

pub returns-in_default-clause-comes : goal.returns-in_default-clause-comes
returns-in_default-clause-comes g c = Comes-after g.met.P.Port.chain [] [] c.loop-page.invariant.goes (c.in_default.ensures.err _)

pub returns-in-Ok-false-clause-goes : goal.returns-in-Ok-false-clause-goes
returns-in-Ok-false-clause-goes g c =
    let same = piece-none _ _ _ _ c.in-Ok-false.ensures.piece c.in-Ok-false.field-0-test in
    subst (λ (future : Future). Goes g.P.Port.moves c.args.port.now c.args.page.now (g.W.Filter.future c.args.filter.now) [] c.loop-page.port c.loop-page.page future)
    (sym same) c.loop-page.invariant.goes

pub returns-in-Err-Ended-clause-comes : goal.returns-in-Err-Ended-clause-comes
returns-in-Err-Ended-clause-comes g c =
    Comes-after g.met.P.Port.chain [] [] c.loop-page.invariant.goes
    (c.end_so.ensures _ (may-end _ _ (piece-refused _ _ _ _ (rw c.in-Err-Ended.field-0-is at c.in-Err-Ended.ensures.piece))))

pub returns-in-Err-Memory-clause-comes : goal.returns-in-Err-Memory-clause-comes
returns-in-Err-Memory-clause-comes g c =
    Comes-after g.met.P.Port.chain [] [] c.loop-page.invariant.goes
    (c.end_so-in-Err-Memory.ensures _ (wants-memory _ (piece-refused _ _ _ _ (rw c.in-Err-Memory.field-0-is at c.in-Err-Memory.ensures.piece))))

pub loop-page-init : goal.loop-page-init
loop-page-init g c = record { goes = Goes-none g.met.P.Port.chain _ _ _; same = refl; size = omega arith }
