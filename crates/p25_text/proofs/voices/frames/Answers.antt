use Rattle.std.proofs.Common.{[], ◌∷◌, ◌∙◌}
use Rattle.p25_text.proofs.VoiceLaws.{frames_of-nine}
use Rattle.p25_text.proofs.voices.frames.Goals as goal

pub returns : goal.returns
returns c =
    c.new.ensures.list
    ∙ (λ i. c.frame.ensures i ∷ c.frame-2.ensures i ∷ c.frame-3.ensures i ∷ c.frame-4.ensures i ∷ c.frame-5.ensures i ∷ c.frame-6.ensures i ∷ c.frame-7.ensures i ∷ c.frame-8.ensures i
    ∷ c.frame-9.ensures i ∷ [])
    ∙ frames_of-nine c.args.octets.now
