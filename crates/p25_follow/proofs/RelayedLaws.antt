-- The output for an item has as many bits as it covers, and the scan finds it again: by the cases of a first item.
use Rattle.std.proofs.Common.{◌≡◌, ℕ, ◌+◌, ◌-◌, ◌*◌, ◌<◌, ◌≤◌, ◌⊎◌, inl, inr, Bool, true, List, ◌++◌, length, take, drop, replicate, Some, Result, Ok, Err, refl, sym, ap, ap₂, ◌∙◌, arith, length-append, length-drop}
use Rattle.std.proofs.{lemmas.List.{drop-drop, length-replicate, length-take-le, take_at}, Math.Seq.{drop-append-add}}
use Rattle.p25_bits.specs.Distance.{distance_of}
use Rattle.p25_bits.proofs.DistanceLaws.{distance_of-same}
use Rattle.p25_bch_nid.specs.NidWord.{nid_word}
use Rattle.p25_status.specs.{Sync.{has_sync, sync_bits}, Woven.{bare_of, statuses_of}, declared.fields.Field.{Field}, declared.symbols.Status.{Status}}
use Rattle.p25_status.proofs.{SyncLaws.{has_sync-append, has_sync-yes}, WovenLaws.{bare_of-woven, length-bare_of, length-statuses_of, length-woven}}
use Rattle.p25_unit_front.specs.Front.{front_of, identifier_bits, identifier_of, unit_front}
use Rattle.p25_unit_front.proofs.FrontLaws.{front_of-bare_of, front_of-identifier, front_of-sync, identifier_of-append, identifier_of-fits, identifier_of-near, identifier_of-take, length-unit_front}
use Rattle.p25_packet_blocks.specs.{Heads.{head_blocks}, Lengths.{packet_sent_length}, UnitReading.{sent_head_of}}
use Rattle.p25_packet_blocks.proofs.{ReadingLaws.{head_reading_of-is}, SentLaws.{sent_header_bits-bare_of}, UnitLaws.{sent_head_of-append, sent_head_of-is}}
use Rattle.p25_units.specs.{Items.{covered, item_from, place_of, unit_item_of}, Needs.{kind_need, need_of}, Readings.{body_reading_of, frame_from, reading_from}}
use Rattle.p25_units.specs.{Units.{IsSendableUnit, IsSoundFrame, frame_length_of, image_of, sent_length}, declared.frame.Frame.{Frame}, declared.item.Item.{Item}}
use Rattle.p25_units.specs.{declared.item.Item.TheVariants.{Whole, Broken, NoUnit, Gap, Cut}, declared.needs.Need.TheVariants.{Length}, declared.unit.Body.{Body}}
use Rattle.p25_units.proofs.{ItemsLaws.{unit_item_of-some}, KindsLaws.{IsPacketKind, IsUnitOf, IsUnitOf-need, IsVoiceKind}}
use Rattle.p25_units.proofs.NeedsLaws.{IsIdentified-from, head_need-good, identified_need-some, kind_need-packet, kind_need-voice, length_need-there, need_of-synced, need_of-there, packet_need-long, synced_need-read}
use Rattle.p25_units.proofs.{ReadingsLaws.{reading_from-some}, UnitsLaws.{IsSoundFrame-frame_as, length-image_of, length-image_of-blocks}}
use Rattle.p25_stream.specs.{Items.{first_item}, Repeats.{bridged_frame}}
use Rattle.p25_stream.proofs.{ItemLaws.{image-whole, whole-within}, ItemsLaws.{first_item-cases, first_item-synced, place_of-first_item}}
use Rattle.p25_follow.specs.{Followed.{unit_name}, Relayed.{relayed, relayed_broken, relayed_item}, RelayLaws.{RelayedIsFound}}
use Rattle.p25_follow.proofs.BehindLaws.{AreAlikeBehind, body_reading-alike, head_reading-alike}

-- ---- a broken data unit
module _ (nac duid : ℕ) (status : Status) (raw : List Bool) (blocks : ℕ) (long : length raw ≡ 72 * blocks) (some : 2 ≤ blocks) where
  symbols : List Status
  symbols = replicate (length (statuses_of raw)) status

  bare : List Bool
  bare = unit_front nac duid ++ drop 112 (bare_of raw)

  symbols-long : length symbols ≡ blocks
  unfolding symbols
  symbols-long = length-replicate (length (statuses_of raw)) status ∙ length-statuses_of blocks raw long

  bare-long : length bare ≡ 70 * length symbols
  unfolding bare
  bare-long =
      omega (arith, length-append (unit_front nac duid) (drop 112 (bare_of raw)), length-unit_front nac duid, length-drop 112 (bare_of raw), length-bare_of blocks raw long, symbols-long, some)

  pub broken-long : length (relayed_broken nac duid status raw) ≡ 72 * blocks
  unfolding relayed_broken symbols bare
  broken-long = omega (arith, length-woven bare symbols bare-long, symbols-long)

  broken-bare : bare_of (relayed_broken nac duid status raw) ≡ bare
  unfolding relayed_broken symbols bare
  broken-bare = bare_of-woven bare symbols bare-long

  bare-behind : (at : ℕ) → 112 ≤ at → drop at bare ≡ drop at (bare_of raw)
  unfolding bare
  bare-behind at behind =
      let front = unit_front nac duid in
      let rest = bare_of raw in
      let split : at ≡ length front + (at - 112) = omega (arith, length-unit_front nac duid, behind) in
      let whole : 112 + (at - 112) ≡ at = omega (arith, behind) in
      rw (drop-drop, whole, ← split) at (drop-append-add front (drop 112 rest) (at - 112))

  broken-alike : AreAlikeBehind (bare_of (relayed_broken nac duid status raw)) (bare_of raw)
  broken-alike = record { same = λ at behind. ap (drop at) broken-bare ∙ bare-behind at behind }

  broken-front : front_of (relayed_broken nac duid status raw) ≡ unit_front nac duid
  unfolding bare
  broken-front =
      rw (← front_of-bare_of blocks (relayed_broken nac duid status raw) some broken-long, broken-bare)
      (take_at (unit_front nac duid) (drop 112 (bare_of raw)) 112 (length-unit_front nac duid))

  pub broken-synced : has_sync (relayed_broken nac duid status raw) ≡ true
  broken-synced =
      let out = relayed_broken nac duid status raw in
      let none : distance_of (take 48 out) sync_bits ≡ 0
      = rw (front_of-sync nac duid out (omega (arith, broken-long, some)) broken-front, distance_of-same) in
      has_sync-yes out (omega (arith, broken-long, some)) (omega (arith, none))

  pub broken-reads : nac < 4096 → duid < 16 → identifier_of (relayed_broken nac duid status raw) ≡ Some (nac, duid)
  broken-reads nac_fits duid_fits =
      let out = relayed_broken nac duid status raw in
      let word = take 63 (nid_word nac duid) in
      let none : distance_of (take 63 (identifier_bits out)) word ≡ 0
      = rw (front_of-identifier nac duid out (omega (arith, broken-long, some)) broken-front, distance_of-same) in
      identifier_of-near nac duid out nac_fits duid_fits (omega (arith, broken-long, some)) (omega (arith, none))

  -- as many bits are needed as before
  broken-kind : (more : List Bool) → IsVoiceKind duid raw ⊎ IsPacketKind duid raw → kind_need duid (relayed_broken nac duid status raw ++ more) ≡ Length (72 * blocks)
  broken-kind more (inl voice) =
      let all = relayed_broken nac duid status raw ++ more in
      rw (
        kind_need-voice duid voice.bare all voice.kind,
        length_need-there (sent_length voice.bare) (length all) (omega (arith, length-append (relayed_broken nac duid status raw) more, broken-long, voice.is, long)),
        ← voice.is,
        long,
      )
  broken-kind more (inr packet) =
      let out = relayed_broken nac duid status raw in
      let all = out ++ more in
      let count = packet_sent_length (head_blocks packet.head) in
      let enough : 5 ≤ blocks = omega (arith, packet.is, long) in
      let read : sent_head_of all ≡ Ok packet.head
      = rw (
        sent_head_of-append out more (omega (arith, broken-long, enough)),
        sent_head_of-is out,
        sent_header_bits-bare_of blocks out enough broken-long,
        ← head_reading_of-is (bare_of out),
        head_reading-alike (bare_of out) (bare_of raw) broken-alike,
      ) packet.read in
      ap (λ (d : ℕ). kind_need d all) packet.packet
      ∙ rw (
        kind_need-packet all,
        packet_need-long all (omega (arith, length-append out more, broken-long, enough)),
        read,
        head_need-good packet.head (length all),
        length_need-there count (length all) (omega (arith, length-append out more, broken-long, packet.is, long)),
        ← packet.is,
        long,
      )

  -- so the scan finds it, with the fields failing that did
  pub broken-found : (place : ℕ) (more : List Bool) (fields : List Field) → nac < 4096 → duid < 16 → IsVoiceKind duid raw ⊎ IsPacketKind duid raw
      → body_reading_of duid (bare_of raw) ≡ Err fields → first_item place (relayed_broken nac duid status raw ++ more) ≡ Broken place (length raw) nac duid fields
  broken-found place more fields nac_fits duid_fits kind fails =
      let out = relayed_broken nac duid status raw in
      let all = out ++ more in
      let count = 72 * blocks in
      let synced : has_sync all ≡ true = has_sync-append out more (omega (arith, broken-long, some)) ∙ broken-synced in
      let reads = broken-reads nac_fits duid_fits in
      let need : need_of all ≡ Length count
      = rw (
        need_of-synced all synced,
        synced_need-read all (Some (nac, duid)) (omega (arith, length-append out more, broken-long, some)) (identifier_of-append out more (omega (arith, broken-long, some)) ∙ reads),
        identified_need-some (nac, duid) all,
      ) (broken-kind more kind) in
      let reading : reading_from (Some (nac, duid)) out ≡ Err fields
      = rw (reading_from-some (nac, duid) out, body_reading-alike (bare_of out) (bare_of raw) broken-alike duid, fails) in
      let same : length out ≡ length raw = broken-long ∙ sym long in
      rw (first_item-synced place all (Length count) synced need, take_at out more count broken-long) (unit_item_of-some place out (nac, duid) (Err fields) reads reading ∙ rw same)

-- ---- the facts about a first item that is broken
record IsBrokenOf (at : ℕ) (bits : List Bool) (place count duid : ℕ) (fields : List Field) : Type 0 where
  here : place ≡ at
  blocks : ℕ
  long : length (take count bits) ≡ 72 * blocks
  some : 2 ≤ blocks
  duid_fits : duid < 16
  kind : IsVoiceKind duid (take count bits) ⊎ IsPacketKind duid (take count bits)
  fails : body_reading_of duid (bare_of (take count bits)) ≡ Err fields
  all : length (take count bits) ≡ count

broken-by : (at : ℕ) (bits : List Bool) (n : ℕ) (nid : ℕ × ℕ) (place count ours duid : ℕ) (fields : List Field) (reading : Result Body (List Field)) → nid.1 < 16 → length (take n bits) ≡ n
    → IsUnitOf nid.1 (take n bits) → body_reading_of nid.1 (bare_of (take n bits)) ≡ reading
    → item_from at nid (take n bits) (frame_from nid.0 (statuses_of (take n bits)) reading) ≡ Broken place count ours duid fields → IsBrokenOf at bits place count duid fields
broken-by at bits n nid place count ours duid fields (Ok body) fits full unit reads is = absurd (cc is)
broken-by at bits n nid place count ours duid fields (Err failing) fits full unit reads is =
    let here : at ≡ place = cc is in
    let long : length (take n bits) ≡ count = cc is in
    let kind : nid.1 ≡ duid = cc is in
    let fails : failing ≡ fields = cc is in
    let size : n ≡ count = sym full ∙ long in
    rw (← size, ← kind) (record { here = sym here; blocks = unit.blocks; long = unit.long; some = unit.least; duid_fits = fits; kind = unit.kind; fails = reads ∙ ap Err fails; all = full })

broken-unit : (at n : ℕ) (bits : List Bool) (place count ours duid : ℕ) (fields : List Field) → need_of bits ≡ Length n → unit_item_of at (take n bits) ≡ Broken place count ours duid fields
    → IsBrokenOf at bits place count duid fields
broken-unit at n bits place count ours duid fields need is =
    let sent = take n bits in
    let known = IsIdentified-from bits n need in
    let there = need_of-there bits n need in
    let reads = identifier_of-take n bits (omega (arith, there.0, there.2)) ∙ known.read in
    let reading = body_reading_of known.nid.1 (bare_of sent) in
    let item = unit_item_of-some at sent known.nid (frame_from known.nid.0 (statuses_of sent) reading) reads (reading_from-some known.nid sent) in
    broken-by at bits n known.nid place count ours duid fields reading
    (identifier_of-fits sent known.nid reads).1 (length-take-le n bits there.3) (IsUnitOf-need n bits known.nid.1 known.kind) refl (sym item ∙ is)

broken-of : (at : ℕ) (bits : List Bool) (place count ours duid : ℕ) (fields : List Field) → first_item at bits ≡ Broken place count ours duid fields → IsBrokenOf at bits place count duid fields
broken-of at bits place count ours duid fields =
    first_item-cases (λ item. item ≡ Broken place count ours duid fields → IsBrokenOf at bits place count duid fields) at bits
    (λ no' is. absurd (cc is))
    (λ n yes' need is. absurd (cc is))
    (λ n yes' need is. broken-unit at n bits place count ours duid fields need is)
    (λ field yes' need is. absurd (cc is))

-- ---- the output for a whole data unit
module _ (nac : ℕ) (status : Status) (nac_fits : nac < 4096) (at : ℕ) (bits : List Bool) (place : ℕ) (frame : Frame) (fixes : ℕ) (is : first_item at bits ≡ Whole place frame fixes) where
  forwarded-sound : IsSoundFrame (bridged_frame nac status frame) × IsSendableUnit (bridged_frame nac status frame).unit
  forwarded-sound =
      let read = whole-within at bits place frame fixes is in
      let count = length frame.statuses in
      (IsSoundFrame-frame_as nac (replicate count status) frame read.sound (length-replicate count status), record { nac_fits = omega (arith, nac_fits); body = read.sendable.body })

  forwarded-long : length (image_of (bridged_frame nac status frame)) ≡ frame_length_of frame.unit
  forwarded-long =
      let read = whole-within at bits place frame fixes is in
      let count = length frame.statuses in
      omega (
        arith,
        length-image_of-blocks (bridged_frame nac status frame) forwarded-sound.0 forwarded-sound.1,
        length-replicate count status,
        length-image_of-blocks frame read.sound read.sendable,
        length-image_of frame read.sound read.sendable,
      )

-- ---- the output for a first item
module _ (nac : ℕ) (status : Status) (nac_fits : nac < 4096) where
  pub item-long : (at : ℕ) (bits : List Bool) (item : Item) → first_item at bits ≡ item → covered item ≤ length bits → length (relayed nac status item (take (covered item) bits)) ≡ covered item
  item-long at bits (Whole place frame fixes) is fits = forwarded-long nac status nac_fits at bits place frame fixes is
  item-long at bits (Broken place count ours duid fields) is fits =
      let known = broken-of at bits place count ours duid fields is in
      broken-long nac duid status (take count bits) known.blocks known.long known.some ∙ sym known.long ∙ known.all
  item-long at bits (NoUnit place field) is fits = length-take-le 1 bits fits
  item-long at bits (Gap place count) is fits = length-take-le count bits fits
  item-long at bits (Cut place have) is fits = length-take-le have bits fits

  pub item-found : (at : ℕ) (bits more : List Bool) (name : ℕ × ℕ) (item : Item) → first_item at bits ≡ item → unit_name item ≡ Some name
      → first_item at (relayed nac status item (take (covered item) bits) ++ more) ≡ relayed_item nac status item
  item-found at bits more name (Whole place frame fixes) is unit =
      let sound = forwarded-sound nac status nac_fits at bits place frame fixes is in
      let here : place ≡ at = sym (ap place_of is) ∙ place_of-first_item at bits in
      rw here (image-whole at (bridged_frame nac status frame) more sound.0 sound.1)
  item-found at bits more name (Broken place count ours duid fields) is unit =
      let known = broken-of at bits place count ours duid fields is in
      broken-found nac duid status (take count bits) known.blocks known.long known.some at more fields nac_fits known.duid_fits known.kind known.fails
      ∙ ap₂ (λ (p n : ℕ). Broken p n nac duid fields) (sym known.here) known.all
  item-found at bits more name item is unit = absurd (cc unit)

pub relayed-found : RelayedIsFound
relayed-found nac status place bits more name nac_fits unit = item-found nac status nac_fits place bits more name (first_item place bits) refl unit
