use Rattle.std.proofs.Common.{◌<◌, ℕ, get_or}
use Rattle.p25_voice_units.specs.{declared.voice.VoiceFrame.{VoiceFrame}, Sendable.{IsVoiceFrame}}
use Rattle.p25_voice_units.proofs.image.fit_speech.Given as goal

abbrev pub invariant-loop-frame : goal.invariant-loop-frame
invariant-loop-frame l = (k : ℕ) (d : VoiceFrame) → k < l.frame-index → IsVoiceFrame (get_or l.frame-items k d)
