-- What is known of a data unit that a scan finds: its type has a length, or it is a packet, and its bits alone are divided into it.
use Rattle.std.proofs.Common.{◌≡◌, ◌≢◌, ℕ, ◌*◌, ◌/◌, ◌≤◌, inl, inr, Bool, true, List, length, take, Option, Some, None, refl, ap, sym, ◌∙◌, arith, ℤ}
use Rattle.std.proofs.{Common.{eq-eqb}, lemmas.Bool.{cases_eq, ne_eqb}, lemmas.List.{length-take-le}}
use Rattle.p25_status.specs.{Sync.{has_sync}, Woven.{bare_of}, declared.fields.Field.{Field}}
use Rattle.p25_status.proofs.{SyncLaws.{has_sync-take}, WovenLaws.{woven-of}}
use Rattle.p25_unit_front.specs.Front.{identifier_of}
use Rattle.p25_unit_front.proofs.FrontLaws.{identifier_of-take}
use Rattle.p25_voice_units.specs.Lengths.{voice_length_of}
use Rattle.p25_units.specs.{Items.{unit_item_of}, Needs.{kind_need, need_of}, Units.{body_duid, body_length, frame_length_of, sent_length}, declared.unit.Body.{Body}}
use Rattle.p25_units.specs.{declared.frame.Frame.{Frame}, declared.item.Item.{Item}, declared.item.Item.TheVariants.{Whole, Broken}, declared.needs.Need.TheVariants.{Length}}
use Rattle.p25_units.specs.declared.unit.Body.TheVariants.{Voice, Packet}
use Rattle.p25_units.proofs.{KindsLaws.{IsUnitOf, IsUnitOf-need, IsVoiceKind}, PacketNeedLaws.{need_of-packet_alone}, UnitsLaws.{IsSentLength-body, IsSentLength-voice, body_length-known}}
use Rattle.p25_units.proofs.NeedsLaws.{IsIdentified-from, identified_need-some, kind_need-voice, length_need-there, need_of-synced, need_of-there, synced_need-read}
use Rattle.p25_follow.specs.Followed.{unit_name}
use Rattle.p25_follow.proofs.FoundLaws.{found-unit}
use Rattle.p25_soft.specs.{Levels.{hard_bits}, Softened.{IsHeard, IsReadFrom, softened}}
use Rattle.p25_soft.proofs.{HeardLaws.{IsHeard-unit}}
use Rattle.p25_decide.specs.{DecidedRecordings.{unit_decided}, DecidedUnits.{decided_bare, decided_sent}}
use Rattle.p25_decide.proofs.UnitsLaws.{decided-other}

-- ---- the lengths of a voice unit

pub record HasVoiceLength (duid half : ℕ) : Type 0 where
  pub bare : voice_length_of duid ≡ Some (70 * (half / 36))
  pub blocks : 36 * (half / 36) ≡ half

pub has-length : (duid bare count half : ℕ) → voice_length_of duid ≡ Some bare → count ≡ sent_length bare → count ≡ 2 * half → HasVoiceLength duid half
has-length duid bare count half is long twice =
    let sent = IsSentLength-voice duid bare is in
    let same : bare ≡ 70 * (half / 36) = omega (arith, sent.fills, sent.sent, long, twice) in
    record { bare = is ∙ ap (λ n. Some n) same; blocks = omega (arith, sent.fills, sent.sent, long, twice) }

whole-by : (body : Body) (count half : ℕ) → body_duid body ≢ 0xC → count ≡ sent_length (body_length body) → count ≡ 2 * half → HasVoiceLength (body_duid body) half
whole-by (Voice voice) count half other long twice = has-length (body_duid (Voice voice)) (body_length (Voice voice)) count half (body_length-known voice) long twice
whole-by (Packet packet) count half other long twice = absurd (other refl)

pub whole-length : (frame : Frame) (count half : ℕ) → body_duid frame.unit.body ≢ 0xC → count ≡ frame_length_of frame.unit → count ≡ 2 * half → HasVoiceLength (body_duid frame.unit.body) half
unfolding frame_length_of
whole-length frame count half other long twice = whole-by frame.unit.body count half other long twice

voice-kind : (duid : ℕ) (sent : List Bool) (unit : IsUnitOf duid sent) → duid ≢ 0xC → IsVoiceKind duid sent
voice-kind duid sent unit other = elim unit.kind [
  | inl voice ↦ voice
  | inr packet ↦ absurd (other packet.packet)
]

second : Option (ℕ × ℕ) → ℕ
second None = 0
second (Some name) = name.1

pub broken-length : (place count nac duid : ℕ) (fields : List Field) (sent : List Bool) (half : ℕ) → IsReadFrom (Broken place count nac duid fields) sent → duid ≢ 0xC → length sent ≡ 2 * half
    → HasVoiceLength duid half
unfolding IsReadFrom second
broken-length place count nac duid fields sent half read other twice =
    let found = IsIdentified-from sent (length sent) read.0 in
    let name = found-unit place found.nid sent found.read in
    let same : found.nid.1 ≡ duid = ap second (sym name.name_is ∙ ap unit_name read.1) in
    let kind : kind_need duid sent ≡ Length (length sent) = ap (λ d. kind_need d sent) (sym same) ∙ found.kind in
    let unit = IsUnitOf-need (length sent) sent duid kind in
    let voice = voice-kind duid (take (length sent) sent) unit other in
    has-length duid voice.bare (length (take (length sent) sent)) half voice.kind voice.is (length-take-le (length sent) sent (omega arith) ∙ twice)

-- ---- what is written of a unit

pub decided-whole : (levels : List ℤ) (place : ℕ) (frame : Frame) (fixes : ℕ) (sent : List Bool) → unit_decided levels (Whole place frame fixes) sent ≡ decided_sent (body_duid frame.unit.body) levels sent
unfolding unit_decided
decided-whole levels place frame fixes sent = refl

packet-length : (frame : Frame) (sent : List Bool) → length sent ≡ frame_length_of frame.unit → length sent ≡ 72 * (length sent / 72)
unfolding frame_length_of
packet-length frame sent long = omega (arith, long, (IsSentLength-body frame.unit.body).sent)

-- a whole packet stays
pub decided-packet : (levels : List ℤ) (place : ℕ) (frame : Frame) (fixes : ℕ) (sent : List Bool) → body_duid frame.unit.body ≡ 0xC → length sent ≡ frame_length_of frame.unit
    → sent ≡ unit_decided levels (Whole place frame fixes) sent
unfolding unit_decided decided_sent
decided-packet levels place frame fixes sent packet long =
    let none : decided_bare (body_duid frame.unit.body) levels (bare_of sent) ≡ bare_of sent
    = decided-other (body_duid frame.unit.body) levels (bare_of sent) (λ is. omega (arith, is, packet)) (λ is. omega (arith, is, packet)) (λ is. omega (arith, is, packet)) (λ is. omega (arith, is, packet)) in
    sym (rw none (woven-of (length sent / 72) sent (packet-length frame sent long)))

pub decided-broken : (levels : List ℤ) (place count nac duid : ℕ) (fields : List Field) (sent : List Bool) → duid ≢ 0xC
    → unit_decided levels (Broken place count nac duid fields) sent ≡ decided_sent duid levels sent
unfolding unit_decided
decided-broken levels place count nac duid fields sent other = rw (ne_eqb duid 0xC other) refl

pub decided-broken-packet : (levels : List ℤ) (place count nac duid : ℕ) (fields : List Field) (sent : List Bool) → duid ≡ 0xC
    → unit_decided levels (Broken place count nac duid fields) sent ≡ softened (Broken place count nac duid fields) levels sent
unfolding unit_decided
decided-broken-packet levels place count nac duid fields sent packet = rw (eq-eqb duid 0xC packet) refl

-- an item that is no unit stays
pub decided-no-unit : (levels : List ℤ) (item : Item) (sent : List Bool) → ((place : ℕ) (frame : Frame) (fixes : ℕ) → item ≡ Whole place frame fixes → ⊥)
    → ((place count nac duid : ℕ) (fields : List Field) → item ≡ Broken place count nac duid fields → ⊥) → unit_decided levels item sent ≡ sent
unfolding unit_decided
decided-no-unit levels (Whole place frame fixes) sent no_whole no_broken = absurd (no_whole place frame fixes refl)
decided-no-unit levels (Broken place count nac duid fields) sent no_whole no_broken = absurd (no_broken place count nac duid fields refl)
decided-no-unit levels item sent no_whole no_broken = refl

-- ---- a unit at the beginning of bits

voice_alone : (bits : List Bool) (count : ℕ) (nid : ℕ × ℕ) → has_sync bits ≡ true → identifier_of bits ≡ Some nid → IsVoiceKind nid.1 (take count bits) → 114 ≤ count → count ≤ length bits
    → need_of (take count bits) ≡ Length count
voice_alone bits count nid synced read voice some there =
    let sent = take count bits in
    let long : length sent ≡ count = length-take-le count bits there in
    let front : 48 ≤ count = omega arith in
    let enough : 114 ≤ length sent = omega (arith, some, long) in
    need_of-synced sent (has_sync-take bits count front there ∙ synced)
    ∙ synced_need-read sent (Some nid) enough (identifier_of-take count bits some ∙ read)
    ∙ identified_need-some nid sent
    ∙ kind_need-voice nid.1 voice.bare sent voice.kind
    ∙ length_need-there (sent_length voice.bare) (length sent) (omega (arith, voice.is))
    ∙ ap Length (sym voice.is ∙ long)

pub need-alone : (bits : List Bool) (count : ℕ) → has_sync bits ≡ true → need_of bits ≡ Length count → need_of (take count bits) ≡ Length count
need-alone bits count synced need =
    let found = IsIdentified-from bits count need in
    let bounds = need_of-there bits count need in
    let some : 114 ≤ count = omega (arith, bounds.0, bounds.2) in
    elim (cases_eq found.nid.1 0xC) [
      | inl packet ↦ need_of-packet_alone bits count found.nid synced found.read packet found.kind bounds.3
      | inr other ↦ voice_alone bits count found.nid synced found.read (voice-kind found.nid.1 (take count bits) (IsUnitOf-need count bits found.nid.1 found.kind) other) some bounds.3
    ]

pub heard-front : (levels : List ℤ) (bits : List Bool) (place count : ℕ) → has_sync bits ≡ true → need_of bits ≡ Length count → take count bits ≡ hard_bits levels
    → IsHeard (unit_item_of place (take count bits)) levels (take count bits)
heard-front levels bits place count synced need hard =
    IsHeard-unit levels (take count bits) place count hard (need-alone bits count synced need) (sym (length-take-le count bits (need_of-there bits count need).3))
