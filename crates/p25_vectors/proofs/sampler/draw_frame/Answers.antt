use Rattle.std.proofs.Common.{sym, ◌∙◌, subst}
use Rattle.p25_vectors.specs.Draws.{draw}
use Rattle.p25_status.specs.Status.{same_status, status_modulo}
use Rattle.p25_units.specs.Units.{IsSoundFrame}
use Rattle.p25_vectors.proofs.SampleLaws.{frame-drawn, frame_next-sound}
use Rattle.p25_vectors.proofs.sampler.draw_frame.Goals as goal

pub returns : goal.returns
unfolding status_modulo
returns c =
    let number = rw c.unwrap-status.ensures at c.new.ensures.number in
    let status = same_status c.unwrap-status.result (status_modulo (draw 0 c.below-nac.new.self)) (number ∙ c.below.ensures.value) in
    let drawn =
    frame-drawn c.args.kind c.args.draws.now c.below-nac.new.self c.below.new.self c.draw_body.new.draws c.below-nac.result c.unwrap-status.result
    c.draw_body.result c.new-unit.result c.below-nac.ensures.value c.below-nac.ensures.state status c.below.ensures.state
    c.draw_body.ensures.body c.draw_body.ensures.state c.new-unit.ensures in
    let frame = c.filled.ensures.value ∙ drawn.0 in
    record { frame = frame; sound = subst IsSoundFrame (sym frame) (frame_next-sound c.args.kind c.args.draws.now); state = drawn.1 }
