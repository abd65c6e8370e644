-- Bits of a voice data unit with so few bit errors that they decode to it. Voice frames and nulls are free.
use Rattle.std.specs.Prelude.{ℕ, ◌≤◌, Bool, List, All}
use Rattle.p25_bits.specs.{Bits.{part}, Distance.{distance_of}}
use Rattle.p25_coded_fields.specs.{Layouts.{Layout}, Within.{IsFieldNear, lost_symbols}}
use Rattle.p25_voice_units.specs.{declared.unit.VoiceUnit.{VoiceUnit}, declared.unit.VoiceUnit.TheVariants.{Header, Link1, Link2, End, EndLink}}
use Rattle.p25_voice_units.specs.{Layouts.{ldu_rows}, FieldLayouts.{header_layout, link_layout, sync_layout, tdulc_layout}, Readings.{low_places, voice_in}}

-- at most two bit errors in each low speed data (LSD) word
abbrev pub AreLowWithin : List Bool → List Bool → Type 0
AreLowWithin sent received = All (λ at. distance_of (part at 16 received) (part at 16 sent) ≤ 2) (low_places ldu_rows)

-- for an LDU1 or an LDU2: the coded field costs at most `checks`, and the low speed data words have few bit errors
pub record IsLinkWithin (checks : ℕ) (layout : Layout) (sent received : List Bool) : Type 0 where
  pub field : IsFieldNear checks layout sent received
  pub low : AreLowWithin sent received

-- received bits are within the correction radius of the transmitted ones: twice the symbol errors of the coded field, and one for each symbol of an
-- uncorrectable inner word, are at most its check symbols, and each low speed data word has at most two bit errors
unfoldable pub IsVoiceWithin : VoiceUnit → List Bool → List Bool → Type 0
IsVoiceWithin (Header word) sent received = IsFieldNear 16 header_layout sent received
IsVoiceWithin (Link1 link low voice) sent received = IsLinkWithin 12 link_layout sent received
IsVoiceWithin (Link2 sync low voice) sent received = IsLinkWithin 8 sync_layout sent received
IsVoiceWithin End sent received = Unit {0}
IsVoiceWithin (EndLink link) sent received = IsFieldNear 12 tdulc_layout sent received

-- the data unit; for an LDU1 or an LDU2 with the voice frames as received
abbrev pub received_voice : VoiceUnit → List Bool → VoiceUnit
received_voice (Header word) received = Header word
received_voice (Link1 link low voice) received = Link1 link low (voice_in received)
received_voice (Link2 sync low voice) received = Link2 sync low (voice_in received)
received_voice End received = End
received_voice (EndLink link) received = EndLink link

-- by whole inner words: at most `most` symbols of the coded field are in inner words with more bit errors than the correction radius
pub record IsLinkWithinByWords (most : ℕ) (layout : Layout) (sent received : List Bool) : Type 0 where
  pub field : lost_symbols 1 layout sent received ≤ most
  pub low : AreLowWithin sent received

-- bits within the correction radius of a data unit's own by a stronger condition than necessary: the erased symbols are at most the correction radius
-- of the outer code
unfoldable pub IsVoiceWithinByWords : VoiceUnit → List Bool → List Bool → Type 0
IsVoiceWithinByWords (Header word) sent received = lost_symbols 3 header_layout sent received ≤ 8
IsVoiceWithinByWords (Link1 link low voice) sent received = IsLinkWithinByWords 6 link_layout sent received
IsVoiceWithinByWords (Link2 sync low voice) sent received = IsLinkWithinByWords 4 sync_layout sent received
IsVoiceWithinByWords End sent received = Unit {0}
IsVoiceWithinByWords (EndLink link) sent received = lost_symbols 3 tdulc_layout sent received ≤ 6
