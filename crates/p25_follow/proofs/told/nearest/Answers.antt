use Rattle.std.proofs.Common.{ℕ, ◌∙◌, ap₂}
use Rattle.p25_bits.specs.Bits.{part}
use Rattle.p25_follow.specs.Told.{nearer_kind, nearest_kind}
use Rattle.p25_follow.proofs.LookLaws.{nearer-known}
use Rattle.p25_follow.proofs.told.nearest.Goals as goal

pub returns-clause-kind : goal.returns-clause-kind
unfolding nearest_kind
returns-clause-kind c =
    let nac = c.args.before.now.nac in
    let front = part c.args.at 114 c.args.bits.now in
    let two = nearer-known nac front c.nearness-first.result c.nearness-second.result c.nearer.result c.nearness-first.ensures.wrong c.nearness-second.ensures.wrong c.nearer.ensures in
    let three = nearer-known nac front c.nearer.result c.nearness-third.result c.nearer-2.result two.1 c.nearness-third.ensures.wrong c.nearer-2.ensures in
    three.0
    ∙ ap₂ (λ (kind next : ℕ). nearer_kind nac front kind next)
    (two.0 ∙ ap₂ (λ (kind next : ℕ). nearer_kind nac front kind next) c.nearness-first.ensures.kind c.nearness-second.ensures.kind) c.nearness-third.ensures.kind

pub returns-clause-wrong : goal.returns-clause-wrong
returns-clause-wrong c =
    let nac = c.args.before.now.nac in
    let front = part c.args.at 114 c.args.bits.now in
    let two = nearer-known nac front c.nearness-first.result c.nearness-second.result c.nearer.result c.nearness-first.ensures.wrong c.nearness-second.ensures.wrong c.nearer.ensures in
    (nearer-known nac front c.nearer.result c.nearness-third.result c.nearer-2.result two.1 c.nearness-third.ensures.wrong c.nearer-2.ensures).1
