-- If sync and NID are written, a data unit of this name and this length begins there for the scan: the bits of its sync and of its NID are at the
-- positions at which the scan reads them.
use Rattle.std.proofs.Common.{◌≡◌, ℕ, ◌<◌, ◌≤◌, Bool, true, false, List, ◌++◌, length, take, drop, Option, Some, None, Result, Ok, Err, refl, ap, ◌∙◌, arith, append_assoc, length-append, length-drop}
use Rattle.std.proofs.lemmas.List.{drop-drop, length-take-le, take-append-drop, take-append-le, take-take, take_at}
use Rattle.std.specs.Option.{unwrap_or}
use Rattle.p25_bits.specs.{Bits.{part}, Distance.{distance_of}}
use Rattle.p25_bits.proofs.{DistanceLaws.{distance_of-same}, PartLaws.{part-take, part_joined}}
use Rattle.p25_bch_nid.specs.NidWord.{nid_word}
use Rattle.p25_status.specs.{Sync.{has_sync, sync_bits}, Woven.{bare_of, statuses_of}, declared.fields.Field.{Field}}
use Rattle.p25_status.proofs.SyncLaws.{has_sync-append, has_sync-yes}
use Rattle.p25_unit_front.specs.Front.{identifier_bits, identifier_of, unit_front}
use Rattle.p25_unit_front.proofs.FrontLaws.{drop-unit_front, identifier_of-append, identifier_of-near, length-unit_front, take-unit_front}
use Rattle.p25_voice_units.specs.Lengths.{voice_length_of}
use Rattle.p25_units.specs.{Items.{covered, item_from, unit_item_of}, Needs.{need_of}, Readings.{body_reading_of, frame_from}, Units.{sent_length}, declared.item.Item.{Item}}
use Rattle.p25_units.specs.{declared.needs.Need.TheVariants.{Length}, declared.unit.Body.{Body}}
use Rattle.p25_units.proofs.{ItemsLaws.{covered-unit_item_of, unit_item_of-some}, NeedsLaws.{identified_need-some, kind_need-voice, length_need-there, need_of-synced, synced_need-read}}
use Rattle.p25_units.proofs.ReadingsLaws.{IsBodyOf-reading, reading_from-some}
use Rattle.p25_stream.specs.Items.{first_item, is_decided}
use Rattle.p25_stream.proofs.ItemsLaws.{first_item-synced, is_decided-synced}
use Rattle.p25_follow.specs.{Chains.{with_front}, Expected.{kind_length}, Followed.{is_rest, unit_name}}
use Rattle.p25_follow.proofs.LengthLaws.{length-with_front}

-- ---- the bits of sync and NID as written

module _ (nac kind : ℕ) (bits : List Bool) (long : 114 ≤ length bits) where
  front_first : length (take 70 (unit_front nac kind)) ≡ 70
  front_first = length-take-le 70 (unit_front nac kind) (omega (arith, length-unit_front nac kind))

  front_symbol : length (part 70 2 bits) ≡ 2
  front_symbol = length-take-le 2 (drop 70 bits) (omega (arith, length-drop 70 bits))

  pub written-sync : take 48 (with_front (nac, kind) bits) ≡ sync_bits
  unfolding with_front
  written-sync =
      let front = unit_front nac kind in
      rw (take-append-le 48 (take 70 front) (part 70 2 bits ++ (drop 70 front ++ drop 114 bits)) (omega (arith, front_first)), take-take 48 70 front (omega arith)) (take-unit_front nac kind)

  before-symbol : part 48 22 (with_front (nac, kind) bits) ≡ take 22 (nid_word nac kind)
  unfolding with_front
  before-symbol =
      let front = unit_front nac kind in
      let rest = part 70 2 bits ++ (drop 70 front ++ drop 114 bits) in
      rw (← part-take 48 22 70 (take 70 front ++ rest) (omega arith), take_at (take 70 front) rest 70 front_first, part-take 48 22 70 front (omega arith), drop-unit_front nac kind)

  behind-symbol : part 72 42 (with_front (nac, kind) bits) ≡ drop 22 (nid_word nac kind)
  unfolding with_front
  behind-symbol =
      let front = unit_front nac kind in
      let first = take 70 front ++ part 70 2 bits in
      let place : length first ≡ 72 = omega (arith, length-append (take 70 front) (part 70 2 bits), front_first, front_symbol) in
      let last : length (drop 70 front) ≡ 42 = omega (arith, length-drop 70 front, length-unit_front nac kind) in
      rw (← append_assoc (take 70 front), part_joined 72 42 first (drop 70 front) (drop 114 bits) place last, ← drop-unit_front nac kind, drop-drop)

  written-identifier : identifier_bits (with_front (nac, kind) bits) ≡ nid_word nac kind
  unfolding identifier_bits
  written-identifier = rw (before-symbol, behind-symbol, take-append-drop)

  pub written-synced : has_sync (with_front (nac, kind) bits) ≡ true
  written-synced =
      let none : distance_of (take 48 (with_front (nac, kind) bits)) sync_bits ≡ 0 = rw (written-sync, distance_of-same) in
      has_sync-yes (with_front (nac, kind) bits) (omega (arith, length-with_front (nac, kind) bits long)) (omega (arith, none))

  pub written-reads : nac < 4096 → kind < 16 → identifier_of (with_front (nac, kind) bits) ≡ Some (nac, kind)
  written-reads nac_fits kind_fits =
      let word = take 63 (nid_word nac kind) in
      let none : distance_of (take 63 (identifier_bits (with_front (nac, kind) bits))) word ≡ 0
      = rw (written-identifier, distance_of-same) in
      identifier_of-near nac kind (with_front (nac, kind) bits) nac_fits kind_fits (omega (arith, length-with_front (nac, kind) bits long)) (omega (arith, none))

-- ---- the type of a voice data unit

pub record IsVoice (kind : ℕ) : Type 0 where
  pub bare : ℕ
  pub is : voice_length_of kind ≡ Some bare
  pub long : kind_length kind ≡ sent_length bare

voice-by : (kind : ℕ) (found : Option ℕ) → voice_length_of kind ≡ found → kind_length kind ≡ sent_length (unwrap_or found 0) → 144 ≤ kind_length kind → IsVoice kind
voice-by kind None is long few = absurd (omega (arith, long))
voice-by kind (Some bare) is long few = record { bare = bare; is = is; long = long }

kind_length-found : (kind : ℕ) (found : Option ℕ) → voice_length_of kind ≡ found → kind_length kind ≡ sent_length (unwrap_or found 0)
unfolding kind_length
kind_length-found kind found is = rw is

pub IsVoice-kind : (kind : ℕ) → 144 ≤ kind_length kind → IsVoice kind
IsVoice-kind kind few = voice-by kind (voice_length_of kind) refl (kind_length-found kind (voice_length_of kind) refl) few

-- ---- the item there

pub record IsFoundAs (name : ℕ × ℕ) (count : ℕ) (item : Item) : Type 0 where
  pub name_is : unit_name item ≡ Some name
  pub unit : is_rest item ≡ false

abbrev named : ℕ → ℕ → ℕ × ℕ
named nac kind = (nac, kind)

found-by : (place : ℕ) (nid : ℕ × ℕ) (sent : List Bool) (reading : Result Body (List Field)) → body_reading_of nid.1 (bare_of sent) ≡ reading
    → IsFoundAs nid (length sent) (item_from place nid sent (frame_from nid.0 (statuses_of sent) reading))
found-by place nid sent (Ok body) is = record { name_is = ap (λ (d : ℕ). Some (named nid.0 d)) (IsBodyOf-reading nid.1 (bare_of sent) body is).duid_is; unit = refl }
found-by place nid sent (Err fields) is = record { name_is = refl; unit = refl }

pub found-unit : (place : ℕ) (nid : ℕ × ℕ) (sent : List Bool) → identifier_of sent ≡ Some nid → IsFoundAs nid (length sent) (unit_item_of place sent)
found-unit place nid sent reads =
    rw (unit_item_of-some place sent nid (frame_from nid.0 (statuses_of sent) (body_reading_of nid.1 (bare_of sent))) reads (reading_from-some nid sent))
    (found-by place nid sent (body_reading_of nid.1 (bare_of sent)) refl)

pub record IsWrittenUnit (place nac kind : ℕ) (unit all : List Bool) : Type 0 where
  pub item_is : first_item place all ≡ unit_item_of place unit
  pub name_is : unit_name (first_item place all) ≡ Some (nac, kind)
  pub is_unit : is_rest (first_item place all) ≡ false
  pub covers : covered (first_item place all) ≡ kind_length kind
  pub decided : is_decided all ≡ true

pub written-found : (place nac kind : ℕ) (bits more : List Bool) → nac < 4096 → 144 ≤ kind_length kind → kind < 16 → length bits ≡ kind_length kind
    → IsWrittenUnit place nac kind (with_front (nac, kind) bits) (with_front (nac, kind) bits ++ more)
written-found place nac kind bits more nac_fits few kind_fits long =
    let enough : 114 ≤ length bits = omega (arith, few, long) in
    let unit = with_front (nac, kind) bits in
    let all = unit ++ more in
    let count = kind_length kind in
    let unit_long : length unit ≡ count = length-with_front (nac, kind) bits enough ∙ long in
    let reads = written-reads nac kind bits enough nac_fits kind_fits in
    let synced : has_sync all ≡ true = has_sync-append unit more (omega (arith, unit_long, few)) ∙ written-synced nac kind bits enough in
    let voice = IsVoice-kind kind few in
    let need : need_of all ≡ Length count
    = rw (
      need_of-synced all synced,
      synced_need-read all (Some (nac, kind)) (omega (arith, length-append unit more, unit_long, few)) (identifier_of-append unit more (omega (arith, unit_long, few)) ∙ reads),
      identified_need-some (nac, kind) all,
      kind_need-voice kind voice.bare all voice.is,
      length_need-there (sent_length voice.bare) (length all) (omega (arith, length-append unit more, unit_long, voice.long)),
      voice.long,
    ) in
    let item = first_item-synced place all (Length count) synced need in
    let own : take count all ≡ unit = take_at unit more count unit_long in
    let found = found-unit place (nac, kind) unit reads in
    let same : first_item place all ≡ unit_item_of place unit = item ∙ ap (unit_item_of place) own in
    record {
      item_is = same;
      name_is = ap unit_name same ∙ found.name_is;
      is_unit = ap is_rest same ∙ found.unit;
      covers = ap covered item ∙ covered-unit_item_of place all count need;
      decided = is_decided-synced all (Length count) synced need;
    }
