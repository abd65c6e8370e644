use Rattle.std.proofs.Common.{◌≡◌, ◌+◌, ◌*◌, ◌++◌, List, Bool, ap, subst, ◌∙◌}
use Rattle.p25_follow.specs.{Expected.{names_of}, Following.{Follow}}
use Rattle.p25_follow.proofs.FollowerSteps.{appended-all}
use Rattle.p25_decide.specs.{DecidedFollowing.{settled_over}, DecidedRecordings.{item_decided}}
use Rattle.p25_decide.proofs.DeciderSteps.{rest-fits, rest-over, rest-settled}
use Rattle.p25_decide.proofs.decider.Decider.take_rest.Goals as goal

pub decide_settled-requires-clause-settled : goal.decide_settled-requires-clause-settled
decide_settled-requires-clause-settled c =
    let raw = c.args.raw.now in
    let stretch = appended-all c.copy_kept.new.stretch raw c.append.new.self c.len.result c.len.ensures.value c.append.ensures.list ∙ ap (λ (xs : List Bool). xs ++ raw) c.copy_kept.ensures.list in
    rest-settled c.self.inside.follower c.args.item.now raw c.take.new.out c.append.new.self (names_of c.before-before.result) c.requires.rest c.before-before.ensures stretch c.take.ensures.out

pub decide_settled-requires-clause-fits : goal.decide_settled-requires-clause-fits
decide_settled-requires-clause-fits c =
    let raw = c.args.raw.now in
    let stretch = appended-all c.copy_kept.new.stretch raw c.append.new.self c.len.result c.len.ensures.value c.append.ensures.list ∙ ap (λ (xs : List Bool). xs ++ raw) c.copy_kept.ensures.list in
    rest-fits (names_of c.before-before.result) c.append.new.self c.take.new.out
    (rest-settled c.self.inside.follower c.args.item.now raw c.take.new.out c.append.new.self (names_of c.before-before.result) c.requires.rest c.before-before.ensures stretch c.take.ensures.out)

pub returns-clause-out : goal.returns-clause-out
returns-clause-out c =
    let raw = c.args.raw.now in
    let stretch = appended-all c.copy_kept.new.stretch raw c.append.new.self c.len.result c.len.ensures.value c.append.ensures.list ∙ ap (λ (xs : List Bool). xs ++ raw) c.copy_kept.ensures.list in
    λ first all are.
    subst (λ (r : Follow). c.decide_settled.new.out ≡ settled_over (item_decided all) (2 * first + c.args.from) r.before (r.stretch ++ raw)) c.self.view_is
    (c.decide_settled.ensures first all are
    ∙ rest-over (item_decided all) (2 * first + c.args.from) (names_of c.before-before.result) c.append.new.self c.self.inside.follower raw c.before-before.ensures stretch)
