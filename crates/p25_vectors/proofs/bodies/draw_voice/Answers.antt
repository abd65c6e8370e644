use Rattle.std.proofs.{Common.{◌≡◌, ◌*◌, ◌<◌, List, [], ◌∷◌, ◌++◌, length, refl, ap, ap₂, sym, ◌∙◌, arith}, lemmas.List.{take_more_set, length-set}}
use Rattle.p25_vectors.specs.{Draws.{octets_drawn, state_after}, Bodies.{voice_frame_of}}
use Rattle.p25_vectors.proofs.{DrawsLaws.{state_after-none}, BodiesLaws.{voice_drawn-none, voice_drawn-more, state_after-more}}
use Rattle.p25_voice_units.specs.declared.voice.VoiceFrame.{VoiceFrame}
use Rattle.p25_vectors.proofs.bodies.draw_voice.Goals as goal

pub loop-i-init : goal.loop-i-init
loop-i-init c = record { frames = sym (voice_drawn-none c.args.draws.now); len = refl; state = sym (state_after-none c.args.draws.now) }

pub loop-i-preserved : goal.loop-i-preserved
loop-i-preserved c =
    let i = c.loop-i.i in
    let now = c.loop-i.invariant.state in
    let frame : VoiceFrame = voice_frame_of c.octets.result in
    let drawn : frame ≡ voice_frame_of (octets_drawn 18 (state_after (18 * i) c.args.draws.now)) = ap voice_frame_of (c.octets.ensures.octets ∙ ap (octets_drawn 18) now) in
    let inside : i < length c.loop-i.frames = omega (arith, c.loop-i.invariant.len, c.loop-i-test.true) in
    let state : c.octets.new.self ≡ state_after 18 c.loop-i.draws = c.octets.ensures.state in
    record {
      frames =
          take_more_set c.loop-i.frames i frame inside
          ∙ ap₂ (λ (xs : List VoiceFrame) (x : VoiceFrame). xs ++ x ∷ []) c.loop-i.invariant.frames drawn
          ∙ sym (voice_drawn-more i c.args.draws.now);
      len = length-set c.loop-i.frames i frame ∙ c.loop-i.invariant.len;
      state = state_after-more 18 i c.args.draws.now c.loop-i.draws c.octets.new.self now state;
    }
