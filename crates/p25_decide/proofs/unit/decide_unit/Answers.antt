use Rattle.std.proofs.Common.{List, Bool, ap, ap₂, sym, ◌∙◌}
use Rattle.p25_bits.proofs.PartLaws.{part_whole}
use Rattle.p25_status.specs.{Woven.{woven, bare_of, statuses_of}, declared.symbols.Status.{Status}}
use Rattle.p25_decide.specs.DecidedUnits.{decided_bare, decided_sent}
use Rattle.p25_decide.proofs.unit.decide_unit.Goals as goal

pub returns-clause-bits : goal.returns-clause-bits
unfolding decided_sent
returns-clause-bits c =
    let sent = c.args.raw.now in
    let whole = part_whole c.len.result sent (sym c.len.ensures.value) in
    c.weave.ensures.list
    ∙ ap₂ (λ (bits : List Bool) (statuses : List Status). woven bits statuses)
    (c.decide_bare.ensures.list ∙ ap (decided_bare c.args.duid c.args.levels.now) (c.unweave.ensures.bare ∙ ap bare_of whole))
    (c.unweave.ensures.statuses ∙ ap statuses_of whole)

pub returns-clause-bare : goal.returns-clause-bare
returns-clause-bare c =
    c.weave.ensures.bare_again
    ∙ c.decide_bare.ensures.list
    ∙ ap (decided_bare c.args.duid c.args.levels.now) c.unweave.ensures.bare
    ∙ ap (λ (xs : List Bool). decided_bare c.args.duid c.args.levels.now (bare_of xs)) (part_whole c.len.result c.args.raw.now (sym c.len.ensures.value))

pub returns-clause-statuses : goal.returns-clause-statuses
returns-clause-statuses c =
    c.weave.ensures.statuses_again ∙ c.unweave.ensures.statuses ∙ ap statuses_of (part_whole c.len.result c.args.raw.now (sym c.len.ensures.value))
