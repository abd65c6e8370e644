use Rattle.std.proofs.lemmas.Bool.{ltb-true}
use Rattle.std.specs.Int.RustNames.{count_ones}
use Rattle.p25_stream.proofs.EarlySteps.{none-of_eight}
use Rattle.p25_stream.proofs.judging.none_of_eight.Goals as goal

pub returns-then-number-lt-ONES_LEAST : goal.returns-then-number-lt-ONES_LEAST
unfolding count_ones
returns-then-number-lt-ONES_LEAST c = λ few. none-of_eight c.args.number c.requires.fits c.if-number-lt-ONES_LEAST.true (ltb-true _ _ few)
