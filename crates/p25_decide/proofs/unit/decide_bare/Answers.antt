use Rattle.std.proofs.Common.{length, refl, ap, sym, ◌∙◌, arith}
use Rattle.p25_coded_fields.specs.Layouts.{places_from}
use Rattle.p25_coded_fields.proofs.CodesLaws.{all_end}
use Rattle.p25_voice_units.specs.{FieldLayouts.{word_places}, Layouts.{hdu_rows, ldu_rows, tdulc_rows}}
use Rattle.p25_voice_units.proofs.{KindsLaws.{long_by_kind}, LengthsLaws.{length-header, length-ldu1, length-ldu2, length-tdulc}}
use Rattle.p25_decide.specs.DecidedUnits.{with_low_speed}
use Rattle.p25_decide.proofs.UnitsLaws.{decided-header, decided-ldu1, decided-ldu2, decided-tdulc, decided-other, decided_by_duid}
use Rattle.p25_decide.proofs.unit.decide_bare.Goals as goal

pub decide_coded-requires-clause-there : goal.decide_coded-requires-clause-there
unfolding word_places places_from
decide_coded-requires-clause-there c =
    let long = long_by_kind c.args.duid 0 770 (length c.args.bare.now) c.in-0.is length-header c.requires.kind in
    all_end 18 770 (length c.args.bare.now) (word_places 18 hdu_rows) refl (omega arith)

pub decide_coded-requires-in-5-clause-there : goal.decide_coded-requires-in-5-clause-there
unfolding word_places places_from
decide_coded-requires-in-5-clause-there c =
    let long = long_by_kind c.args.duid 5 1680 (length c.args.bare.now) c.in-5.is length-ldu1 c.requires.kind in
    all_end 10 1680 (length c.args.bare.now) (word_places 10 ldu_rows) refl (omega arith)

pub decide_low_speed-requires-clause-levels : goal.decide_low_speed-requires-clause-levels
decide_low_speed-requires-clause-levels c =
    let long = long_by_kind c.args.duid 5 1680 (length c.args.bare.now) c.in-5.is length-ldu1 c.requires.kind in omega (arith, long, c.requires.levels)

pub decide_low_speed-requires-clause-bare : goal.decide_low_speed-requires-clause-bare
decide_low_speed-requires-clause-bare c =
    c.decide_coded-in-5.ensures.len ∙ long_by_kind c.args.duid 5 1680 (length c.args.bare.now) c.in-5.is length-ldu1 c.requires.kind

pub decide_coded-requires-in-10-clause-there : goal.decide_coded-requires-in-10-clause-there
unfolding word_places places_from
decide_coded-requires-in-10-clause-there c =
    let long = long_by_kind c.args.duid 10 1680 (length c.args.bare.now) c.in-10.is length-ldu2 c.requires.kind in
    all_end 10 1680 (length c.args.bare.now) (word_places 10 ldu_rows) refl (omega arith)

pub decide_low_speed-requires-in-10-clause-levels : goal.decide_low_speed-requires-in-10-clause-levels
decide_low_speed-requires-in-10-clause-levels c =
    let long = long_by_kind c.args.duid 10 1680 (length c.args.bare.now) c.in-10.is length-ldu2 c.requires.kind in omega (arith, long, c.requires.levels)

pub decide_low_speed-requires-in-10-clause-bare : goal.decide_low_speed-requires-in-10-clause-bare
decide_low_speed-requires-in-10-clause-bare c =
    c.decide_coded-in-10.ensures.len ∙ long_by_kind c.args.duid 10 1680 (length c.args.bare.now) c.in-10.is length-ldu2 c.requires.kind

pub decide_coded-requires-in-15-clause-there : goal.decide_coded-requires-in-15-clause-there
unfolding word_places places_from
decide_coded-requires-in-15-clause-there c =
    let long = long_by_kind c.args.duid 15 420 (length c.args.bare.now) c.in-15.is length-tdulc c.requires.kind in
    all_end 24 420 (length c.args.bare.now) (word_places 24 tdulc_rows) refl (omega arith)

pub returns-in-0-clause-list : goal.returns-in-0-clause-list
unfolding word_places places_from
returns-in-0-clause-list c =
    let levels = c.args.levels.now in
    decided_by_duid c.args.duid 0 levels c.args.bare.now _ _ c.in-0.is c.decide_coded.ensures.list (decided-header levels c.args.bare.now)

pub returns-in-5-clause-list : goal.returns-in-5-clause-list
unfolding word_places places_from
returns-in-5-clause-list c =
    let levels = c.args.levels.now in
    decided_by_duid c.args.duid 5 levels c.args.bare.now _ _ c.in-5.is
    (c.decide_low_speed.ensures.list ∙ ap (with_low_speed levels) c.decide_coded-in-5.ensures.list) (decided-ldu1 levels c.args.bare.now)

pub returns-in-10-clause-list : goal.returns-in-10-clause-list
unfolding word_places places_from
returns-in-10-clause-list c =
    let levels = c.args.levels.now in
    decided_by_duid c.args.duid 10 levels c.args.bare.now _ _ c.in-10.is
    (c.decide_low_speed-in-10.ensures.list ∙ ap (with_low_speed levels) c.decide_coded-in-10.ensures.list) (decided-ldu2 levels c.args.bare.now)

pub returns-in-15-clause-list : goal.returns-in-15-clause-list
unfolding word_places places_from
returns-in-15-clause-list c =
    let levels = c.args.levels.now in
    decided_by_duid c.args.duid 15 levels c.args.bare.now _ _ c.in-15.is c.decide_coded-in-15.ensures.list (decided-tdulc levels c.args.bare.now)

pub returns-in_default-clause-list : goal.returns-in_default-clause-list
returns-in_default-clause-list c =
    sym (decided-other c.args.duid c.args.levels.now c.args.bare.now (λ is. omega arith) (λ is. omega arith) (λ is. omega arith) (λ is. omega arith))
