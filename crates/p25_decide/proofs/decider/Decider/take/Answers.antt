use Rattle.std.proofs.Common.{◌+◌, ◌*◌, sym, ◌∙◌}
use Rattle.p25_decide.specs.DecidedRecordings.{item_decided}
use Rattle.p25_decide.proofs.DeciderSteps.{before-rest, before-unit}
use Rattle.p25_decide.proofs.decider.Decider.take.Goals as goal

pub returns-then-is_rest-clause-out : goal.returns-then-is_rest-clause-out
returns-then-is_rest-clause-out c =
    λ first all are.
    c.take_rest.ensures.out first all are
    ∙ before-rest (item_decided all) (2 * first + c.args.from) c.args.self.now c.args.item.now c.args.raw.now (sym c.is_rest.ensures ∙ c.if-is_rest.true)

pub returns-clause-out : goal.returns-clause-out
returns-clause-out c =
    λ first all are.
    c.take_unit.ensures.out first all are
    ∙ before-unit (item_decided all) (2 * first + c.args.from) c.args.self.now c.args.item.now c.args.raw.now (sym c.is_rest.ensures ∙ c.if-is_rest.false)
