use Rattle.std.proofs.{Common.{◌∙◌, ap, sym, arith, drop}, lemmas.List.{take-take}}
use Rattle.p25_bits.specs.Distance.{distance_of}
use Rattle.p25_status.specs.Sync.{sync_bits}
use Rattle.p25_unit_front.proofs.FrontSteps.{window_bits}
use Rattle.p25_follow.specs.Told.{sync_errors_of}
use Rattle.p25_follow.proofs.told.sync_errors.Goals as goal

pub returns-clause-value : goal.returns-clause-value
unfolding sync_errors_of
returns-clause-value c =
    c.sync_distance.ensures.distance
    ∙ ap (λ xs. distance_of xs sync_bits)
    (window_bits c.args.bits.now c.args.at c.field.result (omega arith) c.field.ensures.value ∙ sym (take-take 48 114 (drop c.args.at c.args.bits.now) (omega arith)))
