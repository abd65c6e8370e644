use Rattle.std.proofs.{Common.{rules, get_or, refl, ap, ◌∙◌, FitsSigned, w8, pos}, lemmas.Int.{to_z-of_z}}
use Rattle.p25_soft.specs.Levels.{hard_dibit}
use Rattle.p25_recording_filters.proofs.SoftHearingLaws.{group-bits}
use Rattle.p25_recording_filters.proofs.hearing.group_octet.Goals as goal

pub returns : goal.returns
returns c =
    let levels = c.args.levels.now in
    let a : FitsSigned w8 (get_or levels 0 (pos 0)) = search rules in
    let b : FitsSigned w8 (get_or levels 1 (pos 0)) = search rules in
    let e : FitsSigned w8 (get_or levels 2 (pos 0)) = search rules in
    let d : FitsSigned w8 (get_or levels 3 (pos 0)) = search rules in
    group-bits levels c.hard.result c.hard-2.result c.hard-3.result c.hard-4.result _ c.requires
    (c.hard.ensures.dibit ∙ ap hard_dibit (to_z-of_z w8 (get_or levels 0 (pos 0)) a))
    (c.hard-2.ensures.dibit ∙ ap hard_dibit (to_z-of_z w8 (get_or levels 1 (pos 0)) b))
    (c.hard-3.ensures.dibit ∙ ap hard_dibit (to_z-of_z w8 (get_or levels 2 (pos 0)) e))
    (c.hard-4.ensures.dibit ∙ ap hard_dibit (to_z-of_z w8 (get_or levels 3 (pos 0)) d))
    c.hard-2.ensures.below
    c.hard-3.ensures.below
    c.hard-4.ensures.below
    refl
