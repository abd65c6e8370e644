use Rattle.std.specs.Int.RustNames.{count_ones}
use Rattle.p25_stream.proofs.{EarlySteps.{none-of_sixteen}, JudgingSteps.{none-of_two_eights}}
use Rattle.p25_stream.proofs.judging.none_of_sixteen.Goals as goal

pub returns-then-number-lt-WIDE_ONES_LEAST-2 : goal.returns-then-number-lt-WIDE_ONES_LEAST-2
unfolding count_ones
returns-then-number-lt-WIDE_ONES_LEAST-2 c = λ _. none-of_sixteen c.args.number c.requires.fits c.if-number-lt-WIDE_ONES_LEAST.true c.if-number-lt-WIDE_ONES_LEAST-2.true

pub returns-then-none_of_eight : goal.returns-then-none_of_eight
returns-then-none_of_eight c = λ both. none-of_two_eights c.args.number (c.none_of_eight.ensures c.if-none_of_eight.true) (c.none_of_eight-then-none_of_eight.ensures both)
