use Rattle.std.proofs.Common.{◌≡◌, ◌+◌, ◌*◌, None, refl, subst, ◌∙◌}
use Rattle.p25_follow.specs.{Expected.{names_of}, Following.{Follow}}
use Rattle.p25_decide.specs.{DecidedRecordings.{item_decided}, DecidedStretches.{chain_over}}
use Rattle.p25_decide.proofs.DeciderSteps.{end-settled, unit-fits, unit-over}
use Rattle.p25_decide.proofs.decider.Decider.finish.Goals as goal

pub decide_settled-requires-clause-settled : goal.decide_settled-requires-clause-settled
decide_settled-requires-clause-settled c =
    end-settled c.self.inside.follower c.finish.new.out c.copy_kept.new.stretch (names_of c.before-before.result) c.before-before.ensures c.copy_kept.ensures.list c.finish.ensures

pub decide_settled-requires-clause-fits : goal.decide_settled-requires-clause-fits
decide_settled-requires-clause-fits c =
    unit-fits (names_of c.before-before.result) c.copy_kept.new.stretch c.finish.new.out None
    (end-settled c.self.inside.follower c.finish.new.out c.copy_kept.new.stretch (names_of c.before-before.result) c.before-before.ensures c.copy_kept.ensures.list c.finish.ensures)

pub returns-clause-out : goal.returns-clause-out
returns-clause-out c =
    λ first all are.
    subst (λ (r : Follow). c.decide_settled.new.out ≡ chain_over (item_decided all) (2 * first + c.args.from) r.before r.stretch None) c.self.view_is
    (c.decide_settled.ensures first all are
    ∙ unit-over (item_decided all) (2 * first + c.args.from) (names_of c.before-before.result) None c.copy_kept.new.stretch c.self.inside.follower None c.before-before.ensures c.copy_kept.ensures.list refl)
