use Rattle.std.proofs.Common.{List, Bool, ap, ◌∙◌, ◌++◌}
use Rattle.p25_follow.specs.Expected.{names_of}
use Rattle.p25_follow.proofs.FollowerSteps.{appended-all, end-out}
use Rattle.p25_follow.proofs.follower.Follower.finish.Goals as goal

pub returns : goal.returns
returns c =
    let stretch = c.self.inside.stretch in
    end-out c.args.self.now (names_of c.self.inside.before) stretch c.append.new.self c.clear.new.self c.put_chain.new.out c.self.view_is
    (appended-all c.new-stretch.result stretch c.append.new.self c.len.result c.len.ensures.value c.append.ensures.list ∙ ap (λ (xs : List Bool). xs ++ stretch) c.new-stretch.ensures)
    c.clear.ensures c.put_chain.ensures.list
