-- The results of the decoders of data units: the bits of a data unit among others, its type by its length, and each result as a case of the decoding.
use Rattle.std.proofs.Common.{◌≡◌, ◌≢◌, ℕ, ◌+◌, ◌-◌, ◌*◌, ◌/◌, ◌%◌, inl, inr, ◌<◌, ◌≤◌, Bool, List, length, drop, Some, None, option_map, Result, Ok, Err, refl, ap, ap₂, sym, ◌∙◌, arith, length-drop}
use Rattle.std.proofs.{lemmas.List.{length-take-le}, lemmas.Bool.{cases_lt}}
use Rattle.p25_bits.specs.{Bits.{part}, Distance.{distance_of}}
use Rattle.p25_status.specs.{Sync.{sync_bits, sync_slack}, Woven.{bare_of, statuses_of}, declared.fields.Field.{Field}, declared.symbols.Status.{Status}}
use Rattle.p25_status.proofs.{SyncLaws.{has_sync-no}, WovenLaws.{length-bare_of}}
use Rattle.p25_bch_nid.specs.declared.nid.Nid.{Nid as Identifier}
use Rattle.p25_unit_front.specs.Front.{identifier_of}
use Rattle.p25_unit_front.proofs.FrontLaws.{identifier_of-take}
use Rattle.p25_voice_units.specs.Lengths.{voice_length_of}
use Rattle.p25_packet_blocks.specs.{Heads.{head_blocks}, Reading.{header_bits, read_head_of, HasItsLength}, UnitReading.{sent_read_of}}
use Rattle.p25_packet_blocks.proofs.{OutcomeLaws.{head_reading_of-unread}, SentLaws.{sent_read_of-bare_of}, UnitLaws.{sent_read_of-take}}
use Rattle.p25_units.specs.{Units.{frame_length_of, IsSoundFrame}, Items.{item_from, unit_item_of}, Needs.{need_of, kind_need}, Readings.{body_reading_of, frame_from, reading_from, unit_reading_of}}
use Rattle.p25_units.specs.{declared.unit.Body.{Body}, declared.frame.Frame.{Frame}, declared.item.Item.{Item}, declared.needs.Need.TheVariants.{NoSync, Length}}
use Rattle.p25_units.proofs.{UnitsLaws.{IsSentLength-voice}, NeedsLaws.{IsIdentified-from, IsHead-kind, need_of-there, need_of-unsynced}, KindsLaws.{IsUnitOf-need}}
use Rattle.p25_units.proofs.{ReadingsLaws.{IsFrameOf-reading, reading_from-some, unit_reading_of-read}, ItemsLaws.{unit_item_of-some}}

-- the facts about a data unit whose length is known
pub record IsUnitAt (bits : List Bool) (at count : ℕ) : Type 0 where
  pub there : at + count ≤ length bits
  pub enough : 114 ≤ count
  pub nid : ℕ × ℕ
  pub read : identifier_of (drop at bits) ≡ Some nid
  pub sent : identifier_of (part at count bits) ≡ Some nid
  pub kind : kind_need nid.1 (drop at bits) ≡ Length count

pub IsUnitAt-from : (bits : List Bool) (at count : ℕ) → at ≤ length bits → need_of (drop at bits) ≡ Length count → IsUnitAt bits at count
IsUnitAt-from bits at count inside e =
    let rest = drop at bits in
    let bounds = need_of-there rest count e in
    let whole : count % 72 ≡ 0 = bounds.2 in
    let some : 72 < count = bounds.0 in
    let found = IsIdentified-from rest count e in
    let enough : 114 ≤ count = omega (arith, some, whole) in
    record {
      there = omega (arith, bounds.3, length-drop at bits);
      enough = enough;
      nid = found.nid;
      read = found.read;
      sent = identifier_of-take count rest enough ∙ found.read;
      kind = found.kind;
    }

-- if its bits are among others
pub record IsCountAt (bits : List Bool) (at count : ℕ) : Type 0 where
  pub there : at + count ≤ length bits
  pub whole : count % 72 ≡ 0
  pub most : count ≤ 25920
  pub enough : 114 ≤ count

pub IsCountAt-kind : (duid : ℕ) (bits : List Bool) (at count : ℕ) → at ≤ length bits → kind_need duid (drop at bits) ≡ Length count → IsCountAt bits at count
IsCountAt-kind duid bits at count inside e =
    let bounds = (IsHead-kind duid).there (drop at bits) count e in
    let some : 72 < count = bounds.0 in
    let whole : count % 72 ≡ 0 = bounds.2 in
    record { there = omega (arith, bounds.3, length-drop at bits); whole = whole; most = bounds.1; enough = omega (arith, some, whole) }

-- a decoded identifier is that one
pub same_nid : (bits : List Bool) (at count : ℕ) (is : IsUnitAt bits at count) (nid : Identifier) → option_map (λ (n : Identifier). (n.nac, n.duid)) (Some nid) ≡ identifier_of (drop at bits)
    → (nid.nac, nid.duid) ≡ is.nid
same_nid bits at count is nid e = let two : Some (nid.nac, nid.duid) ≡ Some is.nid = e ∙ is.read in cc

pub some_nid : (bits : List Bool) (at count : ℕ) → IsUnitAt bits at count → option_map (λ (n : Identifier). (n.nac, n.duid)) None ≡ identifier_of (drop at bits) → ⊥
some_nid bits at count is e = let two : option_map (λ (n : Identifier). (n.nac, n.duid)) None ≡ Some is.nid = e ∙ is.read in cc

-- the decoding of its bits
pub reading_of_unit : (bits : List Bool) (at count : ℕ) (is : IsUnitAt bits at count) → unit_reading_of (part at count bits) ≡ reading_from (Some is.nid) (part at count bits)
reading_of_unit bits at count is = unit_reading_of-read (part at count bits) (Some is.nid) is.sent

pub item_of_unit : (bits : List Bool) (at count place : ℕ) (is : IsUnitAt bits at count) → unit_item_of place (part at count bits) ≡ item_from place is.nid (part at count bits)
    (reading_from (Some is.nid) (part at count bits))
item_of_unit bits at count place is = unit_item_of-some place (part at count bits) is.nid (reading_from (Some is.nid) (part at count bits)) is.sent refl

-- the item by a decoded identifier
pub item-is : (bits : List Bool) (at count place : ℕ) → IsUnitAt bits at count → (nid : Identifier) → option_map (λ (n : Identifier). (n.nac, n.duid)) (Some nid) ≡ identifier_of (drop at bits)
    → (item : Item) → item ≡ item_from place (nid.nac, nid.duid) (part at count bits) (reading_from (Some (nid.nac, nid.duid)) (part at count bits)) → item ≡ unit_item_of place (part at count bits)
item-is bits at count place is nid read item e =
    let sent = part at count bits in
    e ∙ ap (λ n. item_from place n sent (reading_from (Some n) sent)) (same_nid bits at count is nid read) ∙ sym (item_of_unit bits at count place is)

-- the type by it
pub kind-is : (bits : List Bool) (at count : ℕ) (is : IsUnitAt bits at count) (nid : Identifier) → option_map (λ (n : Identifier). (n.nac, n.duid)) (Some nid) ≡ identifier_of (drop at bits)
    → kind_need nid.duid (drop at bits) ≡ Length count
kind-is bits at count is nid read = ap (λ n. kind_need n.1 (drop at bits)) (same_nid bits at count is nid read) ∙ is.kind

-- the decoding by the body of the data unit
pub reading-is : (nid : ℕ × ℕ) (sent : List Bool) (statuses : List Status) (reading : Result Body (List Field)) → statuses ≡ statuses_of sent → reading ≡ body_reading_of nid.1 (bare_of sent)
    → frame_from nid.0 statuses reading ≡ reading_from (Some nid) sent
reading-is nid sent statuses reading statuses_is read = ap₂ (λ (s : List Status) (r : Result Body (List Field)). frame_from nid.0 s r) statuses_is read ∙ sym (reading_from-some nid sent)

-- a decoded frame is sound and as long as its bits
pub frame-is : (nac duid : ℕ) (bits : List Bool) (at count : ℕ) (frame : Frame) → at ≤ length bits → kind_need duid (drop at bits) ≡ Length count
    → reading_from (Some (nac, duid)) (part at count bits) ≡ Ok frame → IsSoundFrame frame × (frame_length_of frame.unit ≡ count)
frame-is nac duid bits at count frame inside kind read =
    let is = IsFrameOf-reading (nac, duid) (part at count bits) frame (IsUnitOf-need count (drop at bits) duid kind) read in
    let counted = IsCountAt-kind duid bits at count inside kind in
    (is.sound, is.long ∙ length-take-le count (drop at bits) (omega (arith, counted.there, length-drop at bits)))

-- the length of a voice data unit without status symbols
pub voice_long : (duid : ℕ) (bits : List Bool) (at count : ℕ) (bare : List Bool) → duid ≢ 0xC → kind_need duid (drop at bits) ≡ Length count → 72 * (count / 72) ≡ count
    → length bare ≡ 70 * (count / 72) → at + count ≤ length bits → voice_length_of duid ≡ Some (length bare)
voice_long duid bits at count bare other kind whole long there =
    elim (IsUnitOf-need count (drop at bits) duid kind).kind [
      | inl voice ↦
          let is = IsSentLength-voice duid voice.bare voice.kind in
          let counted : length (part at count bits) ≡ count = length-take-le count (drop at bits) (omega (arith, there, length-drop at bits)) in
          let same : voice.bare ≡ length bare = omega (arith, voice.is, counted, is.fills, is.sent, long, whole) in
          voice.kind ∙ ap Some same
      | inr packet ↦ absurd (other packet.packet)
    ]

-- a packet has a decoded header, and the length that this states
pub record IsPacketAt (bits : List Bool) (at count : ℕ) : Type 0 where
  pub there : at + 316 ≤ length bits
  pub head : sent_read_of (drop at bits) ≡ read_head_of (header_bits (bare_of (part at count bits)))
  pub some : (field : Field) → sent_read_of (drop at bits) ≡ Err field → ⊥
  pub has : HasItsLength (bare_of (part at count bits))

pub IsPacketAt-kind : (bits : List Bool) (at count : ℕ) → at ≤ length bits → kind_need 0xC (drop at bits) ≡ Length count → IsPacketAt bits at count
unfolding HasItsLength
IsPacketAt-kind bits at count inside kind =
    let rest = drop at bits in
    let sent = part at count bits in
    let unit = IsUnitOf-need count rest 0xC kind in
    let counted = IsCountAt-kind 0xC bits at count inside kind in
    let long : length sent ≡ count = length-take-le count rest (omega (arith, counted.there, length-drop at bits)) in
    elim unit.kind [
      | inl voice ↦ absurd (voice.other refl)
      | inr packet ↦
          let n = head_blocks packet.head in
          let five : 5 ≤ unit.blocks = omega (arith, packet.is, unit.long) in
          let many : 316 ≤ count = omega (arith, packet.is, long) in
          let read : sent_read_of rest ≡ read_head_of (header_bits (bare_of sent)) = sym (sent_read_of-take count rest many) ∙ sent_read_of-bare_of unit.blocks sent five unit.long in
          record {
            there = omega (arith, counted.there, many);
            head = read;
            some = λ field fails. let two : Ok packet.head ≡ Err field = sym packet.read ∙ head_reading_of-unread (bare_of sent) field (sym read ∙ fails) in cc;
            has = λ head read.
                let two : Ok head ≡ Ok packet.head = sym read ∙ packet.read in
                let same : head_blocks head ≡ n = ap head_blocks (let h : head ≡ packet.head = cc in h) in
                omega (arith, same, packet.is, unit.long, length-bare_of unit.blocks sent unit.long);
          }
    ]

-- a position has no sync
pub need-unsynced : (bits : List Bool) (at : ℕ) → at ≤ length bits → 48 ≤ length bits - at → (distance_of (part at 48 bits) sync_bits ≤ sync_slack → ⊥) → NoSync ≡ need_of (drop at bits)
need-unsynced bits at inside long far =
    sym (need_of-unsynced (drop at bits) (omega (arith, length-drop at bits))
    (has_sync-no (drop at bits) (elim (cases_lt sync_slack (distance_of (part at 48 bits) sync_bits)) [ inl more ↦ more | inr few ↦ absurd (far few) ])))
