use Rattle.std.proofs.{Common.{◌≡◌, length, rules, ap, sym, to_z, w32, ◌∙◌}, lemmas.Int.{to_z-of_z}}
use Rattle.p25_units.specs.{Units.{frame_length_of}, declared.frame.Frame.{Frame}}
use Rattle.p25_c.proofs.BoundsLaws.{unit-count}
use Rattle.p25_c.proofs.building.write_whole.Goals as goal
use mir.Val.{SFits}

pub returns-clause-count : goal.returns-clause-count
returns-clause-count c = λ count same.
    let fits : SFits w32 c.write_bits.result = search rules in
    let long : length c.image.new.out ≡ frame_length_of c.args.unit = c.image.ensures.len ∙ ap (λ (frame : Frame). frame_length_of frame.unit) c.filled.ensures.value in
    unit-count c.args.unit c.image.new.out _ _ c.write_bits.result long c.write_bits.ensures count (sym (to_z-of_z w32 c.write_bits.result fits) ∙ same)
