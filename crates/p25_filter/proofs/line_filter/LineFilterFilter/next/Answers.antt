use Rattle.p25_filter.specs.Futures.{NextPiece}
use Rattle.p25_filter.proofs.LineFiltersLaws.{piece-left, step-after, step-give, step-idle, step-none}
use Rattle.p25_filter.proofs.line_filter.LineFilterFilter.next.Goals as goal

pub returns-then-self-octets-clause-piece : goal.returns-then-self-octets-clause-piece
unfolding NextPiece
returns-then-self-octets-clause-piece g c =
    step-give g.M.LineMachine.rules c.args.self.now c.give.new.self c.give.new.out _ (piece-left c.args.self.now.left c.give.new.out 8192 c.give.ensures.out) c.give.ensures.left

pub returns-in-Ok-true-clause-piece : goal.returns-in-Ok-true-clause-piece
returns-in-Ok-true-clause-piece g c =
    let ready = c.ready.new.self in
    let given = c.give-in-Ok-true in
    step-after g.M.LineMachine.rules c.args.self.now ready given.new.self given.new.out _ (rw c.in-Ok-true.field-0-test at c.in-Ok-true.ensures.piece)
    (piece-left ready.left given.new.out 8192 given.ensures.out) given.ensures.left

pub returns-in-Ok-false-clause-piece : goal.returns-in-Ok-false-clause-piece
returns-in-Ok-false-clause-piece g c = step-none g.M.LineMachine.rules _ _ _ (c.in-Ok-false.ensures.none (cc)).0

pub returns-in-Ok-false-clause-idle : goal.returns-in-Ok-false-clause-idle
returns-in-Ok-false-clause-idle g c =
    λ same. let none = c.in-Ok-false.ensures.none (cc) in step-idle g.M.LineMachine.rules c.ready.new.self none.2 none.1

pub returns-in-Err-clause-piece : goal.returns-in-Err-clause-piece
unfolding NextPiece
returns-in-Err-clause-piece g c = c.in-Err.ensures.piece
