-- The item of a data unit is whole only if its bits decode to its frame, and those of sync and NID lie within the correction radius: by the decoding
-- of its NID.
use Rattle.std.proofs.Common.{◌≡◌, ℕ, ◌%◌, ◌<◌, ◌≤◌, Bool, true, List, length, take, Some, Result, Ok, Err, refl, ap, ap₂, sym, ◌∙◌, subst, arith}
use Rattle.p25_bits.specs.Distance.{distance_of}
use Rattle.p25_status.specs.{Sync.{sync_slack, has_sync}, declared.fields.Field.{Field}}
use Rattle.p25_status.proofs.SyncLaws.{has_sync-distance, has_sync-take}
use Rattle.p25_bch_nid.specs.NidWord.{nid_word}
use Rattle.p25_bch_nid.proofs.NidWordLaws.{nid_reading_of-near}
use Rattle.p25_unit_front.specs.Front.{identifier_bits, identifier_of}
use Rattle.p25_unit_front.proofs.FrontLaws.{front_of-sync, front_of-identifier, identifier_of-take, identifier_of-fits}
use Rattle.p25_units.specs.{Units.{body_duid, image_of, IsSendableUnit}, Fixes.{fixes_of}, Items.{item_from}, Readings.{reading_from}, WholeLaws.{WholeUnitIsRead}, WithinRadius.{IsFrontWithin}}
use Rattle.p25_units.specs.{declared.frame.Frame.{Frame}, declared.item.Item.TheVariants.{Whole}}
use Rattle.p25_units.proofs.{UnitsLaws.{front_of-image_of, length-image_of, length-image_of-blocks, blocks-sound}, NeedsLaws.{IsIdentified-from, need_of-there}, KindsLaws.{IsUnitOf-need}}
use Rattle.p25_units.proofs.{ReadingsLaws.{IsFrameOf, IsFrameOf-reading}, ItemsLaws.{unit_item_of-some}}

-- a whole item is that of the decoded frame
whole-from : (at : ℕ) (nid : ℕ × ℕ) (sent : List Bool) (reading : Result Frame (List Field)) (place : ℕ) (frame : Frame) (fixes : ℕ) → item_from at nid sent reading ≡ Whole place frame fixes
    → (reading ≡ Ok frame) × (place ≡ at) × (fixes ≡ fixes_of frame sent)
whole-from at nid sent (Ok other) place frame fixes e =
    let same : other ≡ frame = cc in
    let here : at ≡ place = cc in
    let count : fixes_of other sent ≡ fixes = cc in
    (ap Ok same, sym here, sym count ∙ ap (λ (f : Frame). fixes_of f sent) same)
whole-from at nid sent (Err fields) place frame fixes e = absurd (cc)

-- a decoded identifier lies within 11 bits of its codeword
identifier_of-word : (sent : List Bool) (nid : ℕ × ℕ) → identifier_of sent ≡ Some nid → distance_of (take 63 (identifier_bits sent)) (take 63 (nid_word nid.0 nid.1)) ≤ 11
unfolding identifier_of
identifier_of-word sent nid read = nid_reading_of-near (identifier_bits sent) nid read

-- so sync and NID of the transmitted bits are within the correction radius of the frame's
near-from : (nid : ℕ × ℕ) (sent : List Bool) (frame : Frame) → has_sync sent ≡ true → identifier_of sent ≡ Some nid → IsFrameOf nid sent frame → IsSendableUnit frame.unit → IsFrontWithin frame sent
near-from nid sent frame synced read is sendable =
    let image = image_of frame in
    let duid = body_duid frame.unit.body in
    let long : 48 ≤ length image = omega (arith, length-image_of-blocks frame is.sound sendable, (blocks-sound frame is.sound).0) in
    let front = front_of-image_of frame is.sound sendable in
    let sync = front_of-sync frame.unit.nac duid image long front in
    let word = front_of-identifier frame.unit.nac duid image long front ∙ ap₂ nid_word is.nac is.duid in
    record {
      long = sym is.long ∙ sym (length-image_of frame is.sound sendable);
      sync = subst (λ (xs : List Bool). distance_of (take 48 sent) xs ≤ sync_slack) (sym sync) (has_sync-distance sent synced);
      identifier =
          subst (λ (xs : List Bool). distance_of (take 63 (identifier_bits sent)) (take 63 xs) ≤ 11) (sym word) (identifier_of-word sent nid read);
    }

pub whole-near : WholeUnitIsRead
whole-near at bits count place frame fixes synced need e =
    let sent = take count bits in
    let found = IsIdentified-from bits count need in
    let unit = IsUnitOf-need count bits found.nid.1 found.kind in
    let bounds = need_of-there bits count need in
    let whole : count % 72 ≡ 0 = bounds.2 in
    let some : 72 < count = bounds.0 in
    let enough : 114 ≤ count = omega (arith, whole) in
    let read : identifier_of sent ≡ Some found.nid = identifier_of-take count bits enough ∙ found.read in
    let reading = reading_from (Some found.nid) sent in
    let parts = whole-from at found.nid sent reading place frame fixes (sym (unit_item_of-some at sent found.nid reading read refl) ∙ e) in
    let is = IsFrameOf-reading found.nid sent frame unit parts.0 in
    let sendable : IsSendableUnit frame.unit = record { nac_fits = omega (arith, is.nac, (identifier_of-fits sent found.nid read).0); body = is.sendable } in
    record {
      front = near-from found.nid sent frame (has_sync-take bits count (omega arith) bounds.3 ∙ synced) read is sendable;
      body = is.read;
      sound = is.sound;
      sendable = sendable;
      statuses = is.statuses;
      place_is = parts.1;
      fixes_is = parts.2;
    }
