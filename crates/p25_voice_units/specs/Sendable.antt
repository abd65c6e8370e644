-- The invariants of voice data units by their types.
use Rattle.std.specs.Prelude.{◌≡◌, ℕ, ◌<◌, List, length, All}
use Rattle.p25_link.specs.{Words.{IsHeaderWord, IsLinkControl, IsEncryptionSync}, declared.link_control.LinkControl.{LinkControl}}
use Rattle.p25_link.specs.declared.encryption.EncryptionSync.{EncryptionSync}
use Rattle.p25_voice_units.specs.{declared.voice.VoiceFrame.{VoiceFrame}, declared.unit.VoiceUnit.{VoiceUnit}}
use Rattle.p25_voice_units.specs.declared.unit.VoiceUnit.TheVariants.{Header, Link1, Link2, End, EndLink}

-- a voice frame: eighteen octets
pub record IsVoiceFrame (frame : VoiceFrame) : Type 0 where
  pub long : length frame.0 ≡ 18
  pub small : All (λ octet. octet < 256) frame.0

-- nine voice frames, and two octets of low speed data (LSD)
pub record IsSpeech (low : List ℕ) (voice : List VoiceFrame) : Type 0 where
  pub two : length low ≡ 2
  pub small : All (λ octet. octet < 256) low
  pub nine : length voice ≡ 9
  pub frames : All IsVoiceFrame voice

-- the invariant of an LDU1, voice with link control
pub record IsSendableLink1 (link : LinkControl) (low : List ℕ) (voice : List VoiceFrame) : Type 0 where
  pub word : IsLinkControl link
  pub speech : IsSpeech low voice

-- the invariant of an LDU2, voice with encryption sync
pub record IsSendableLink2 (sync : EncryptionSync) (low : List ℕ) (voice : List VoiceFrame) : Type 0 where
  pub word : IsEncryptionSync sync
  pub speech : IsSpeech low voice

-- the invariant of every voice data unit (HDU, LDU1, LDU2, TDU or TDULC)
unfoldable pub IsSendableVoice : VoiceUnit → Type 0
IsSendableVoice (Header word) = IsHeaderWord word
IsSendableVoice (Link1 link low voice) = IsSendableLink1 link low voice
IsSendableVoice (Link2 sync low voice) = IsSendableLink2 sync low voice
IsSendableVoice End = Unit {0}
IsSendableVoice (EndLink link) = IsLinkControl link
