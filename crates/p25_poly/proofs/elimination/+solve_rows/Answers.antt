use Rattle.std.proofs.{Common.{◌≡◌, length, drop, arith}, lemmas.List.{get_or_read, take_rest, length-set}}
use Rattle.p25_gf64.specs.Gf64.{gf64}
use Rattle.p25_algebra.specs.Series.{coefficient}
use Rattle.p25_poly.specs.LinearSystem.{blank_row, AreCleared}
use Rattle.p25_poly.proofs.RowLaws.{met_with_front, met_rest, blank_met, blank_right, corrected_solution, solution_cleared, not_empty}
use Rattle.p25_poly.proofs.elimination.+solve_rows.Goals as goal

pub returns-then-is_zero-clause-solved : goal.returns-then-is_zero-clause-solved
returns-then-is_zero-clause-solved t c =
    let rows = c.args.rows.now in
    let index_rows_0 = c.index-rows-0 in
    λ yes_solved.
    let n = length c.args.unknowns.now in
    let x = coefficient gf64 c.solve_rows.new.unknowns in
    let some = not_empty rows c.is_empty.result c.is_empty.ensures c.if-is_empty.false in
    let front = get_or_read rows 0 index_rows_0.result some index_rows_0.is blank_row in
    met_with_front n rows x (rw (← front) (blank_met n index_rows_0.result x c.in_default.ensures.none (c.is_zero.ensures.0 c.if-is_zero.true)))
    (rw take_rest at (c.solve_rows.ensures.solved yes_solved))

pub returns-then-is_zero-clause-complete : goal.returns-then-is_zero-clause-complete
returns-then-is_zero-clause-complete t c = λ x met. c.solve_rows.ensures.complete x (rw take_rest (met_rest (length c.args.unknowns.now) c.args.rows.now x met))

pub returns-else-is_zero-clause-complete : goal.returns-else-is_zero-clause-complete
returns-else-is_zero-clause-complete t c =
    let index_rows_0 = c.index-rows-0 in
    λ x met.
    let some = not_empty c.args.rows.now c.is_empty.result c.is_empty.ensures c.if-is_empty.false in
    let front = get_or_read c.args.rows.now 0 index_rows_0.result some index_rows_0.is blank_row in
    c.is_zero.ensures.1 (blank_right (length c.args.unknowns.now) index_rows_0.result x c.in_default.ensures.none (rw front (met.each 0 some)))

pub returns-then-solved-clause-solved : goal.returns-then-solved-clause-solved
returns-then-solved-clause-solved t c =
    let rows = c.args.rows.now in
    let index_rows_0 = c.index-rows-0 in
    let loop = c.loop-i in
    let unknowns = c.args.unknowns.now in
    let column = c.in-Some.column in
    λ yes_solved.
    let n = length unknowns in
    let as_many : length c.solve_rows-solved.new.unknowns ≡ length unknowns = omega (arith, length-set unknowns column c.default.result) in
    let some = not_empty rows c.is_empty.result c.is_empty.ensures c.if-is_empty.false in
    let front = get_or_read rows 0 index_rows_0.result some index_rows_0.is blank_row in
    let kept : length loop.rest ≡ length (drop 1 rows) = rw take_rest at loop.auto.rest in
    let cleared : AreCleared column index_rows_0.result (drop 1 rows) loop.rest
    = record { as_many = kept; each = λ r h. rw take_rest at (loop.invariant.cleared r (omega (arith, kept))) } in
    corrected_solution n column rows loop.rest index_rows_0.result c.in-Some.ensures.below some front cleared
    (coefficient gf64 c.solve_rows-solved.new.unknowns) (coefficient gf64 c.correct.new.unknowns) c.correct.ensures.others
    (rw as_many at c.correct.ensures.met) (rw length-set at (c.solve_rows-solved.ensures.solved yes_solved))

pub returns-else-solved-clause-complete : goal.returns-else-solved-clause-complete
returns-else-solved-clause-complete t c =
    let rows = c.args.rows.now in
    let index_rows_0 = c.index-rows-0 in
    let loop = c.loop-i in
    λ x met.
    let n = length c.args.unknowns.now in
    let some = not_empty rows c.is_empty.result c.is_empty.ensures c.if-is_empty.false in
    let front = get_or_read rows 0 index_rows_0.result some index_rows_0.is blank_row in
    let kept : length loop.rest ≡ length (drop 1 rows) = rw take_rest at loop.auto.rest in
    let cleared : AreCleared c.in-Some.column index_rows_0.result (drop 1 rows) loop.rest
    = record { as_many = kept; each = λ r h. rw take_rest at (loop.invariant.cleared r (omega (arith, kept))) } in
    c.solve_rows-solved.ensures.complete x
    (rw length-set (solution_cleared n c.in-Some.column rows loop.rest index_rows_0.result c.in-Some.ensures.below some front cleared x met))
