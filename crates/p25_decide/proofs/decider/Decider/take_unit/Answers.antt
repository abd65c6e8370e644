use Rattle.std.proofs.Common.{◌≡◌, ◌+◌, ◌*◌, subst, ◌∙◌}
use Rattle.p25_follow.specs.{Expected.{names_of}, Followed.{unit_name}, Following.{Follow}}
use Rattle.p25_decide.specs.{DecidedRecordings.{item_decided}, DecidedStretches.{chain_over}}
use Rattle.p25_decide.proofs.DeciderSteps.{name-behind, unit-fits, unit-over, unit-settled}
use Rattle.p25_decide.proofs.decider.Decider.take_unit.Goals as goal

pub decide_settled-requires-clause-settled : goal.decide_settled-requires-clause-settled
decide_settled-requires-clause-settled c =
    let item = c.args.item.now in
    let name = c.before-end.ensures ∙ name-behind c.self.inside.follower c.take.new.self item c.args.raw.now c.requires.unit c.take.ensures.behind in
    unit-settled c.self.inside.follower item c.args.raw.now c.take.new.out c.copy_kept.new.stretch (names_of c.before-before.result) (names_of c.before-end.result) c.requires.unit
    c.before-before.ensures c.copy_kept.ensures.list name c.take.ensures.out

pub decide_settled-requires-clause-fits : goal.decide_settled-requires-clause-fits
decide_settled-requires-clause-fits c =
    let item = c.args.item.now in
    let name = c.before-end.ensures ∙ name-behind c.self.inside.follower c.take.new.self item c.args.raw.now c.requires.unit c.take.ensures.behind in
    unit-fits (names_of c.before-before.result) c.copy_kept.new.stretch c.take.new.out (names_of c.before-end.result)
    (unit-settled c.self.inside.follower item c.args.raw.now c.take.new.out c.copy_kept.new.stretch (names_of c.before-before.result) (names_of c.before-end.result) c.requires.unit
    c.before-before.ensures c.copy_kept.ensures.list name c.take.ensures.out)

pub returns-clause-out : goal.returns-clause-out
returns-clause-out c =
    let item = c.args.item.now in
    let name = c.before-end.ensures ∙ name-behind c.self.inside.follower c.take.new.self item c.args.raw.now c.requires.unit c.take.ensures.behind in
    λ first all are.
    subst (λ (r : Follow). c.decide_settled.new.out ≡ chain_over (item_decided all) (2 * first + c.args.from) r.before r.stretch (unit_name item)) c.self.view_is
    (c.decide_settled.ensures first all are
    ∙ unit-over (item_decided all) (2 * first + c.args.from) (names_of c.before-before.result) (names_of c.before-end.result) c.copy_kept.new.stretch c.self.inside.follower (unit_name item)
    c.before-before.ensures c.copy_kept.ensures.list name)
