-- The facts about a broken packet into which its bits are divided: its header was decoded, and it has the length that the header states. And the
-- result for each item.
use Rattle.std.proofs.Common.{◌≡◌, ◌≢◌, ℕ, ◌≤◌, inl, inr, Bool, true, List, length, take, refl, ap, sym, ◌∙◌, arith, ℤ, Some, Result, Ok, Err, eq-eqb}
use Rattle.std.proofs.{lemmas.Bool.{cases_lt, ne_eqb}, lemmas.List.{length-take-le, take_all}}
use Rattle.p25_status.specs.{Sync.{has_sync}, declared.fields.Field.{Field}}
use Rattle.p25_packet_blocks.specs.{declared.head.PacketHead.{PacketHead}, Heads.{head_blocks}, Lengths.{packet_sent_length}, UnitReading.{sent_head_of}}
use Rattle.p25_units.specs.{declared.frame.Frame.{Frame}, declared.item.Item.{Item}, declared.item.Item.TheVariants.{Broken}, declared.needs.Need.TheVariants.{Length}}
use Rattle.p25_units.specs.{Items.{covered, item_from, place_of, unit_item_of}, Needs.{head_need, need_of, packet_need}, Readings.{reading_from}}
use Rattle.p25_units.proofs.ItemsLaws.{covered-unit_item_of, place_of-unit_item_of, unit_item_of-some}
use Rattle.p25_units.proofs.{NeedsLaws.{IsIdentified-from, head_need-bad, head_need-good, kind_need-packet, packet_need-short, packet_need-long}, PacketNeedLaws.{length_need-is, need_of-packet_alone}}
use Rattle.p25_units.proofs.UnitPlaceLaws.{IsUnitAt-from}
use Rattle.p25_soft.specs.{Levels.{hard_bits}, Softened.{IsHeard, IsReadFrom, blocks_replaced, blocks_to_follow, softened, softened_count, softened_packet, told_blocks}}

-- the length of a packet that is known is the one that its header states
head_told : (head : Result PacketHead Field) (have : ℕ) → head_need head have ≡ Length have → have ≡ packet_sent_length (told_blocks head)
unfolding told_blocks
head_told (Err field) have e = absurd (let two = rw (head_need-bad field have) at e in cc)
head_told (Ok head) have e = sym (length_need-is (packet_sent_length (head_blocks head)) have have (sym (head_need-good head have) ∙ e))

pub packet_told : (sent : List Bool) → packet_need sent ≡ Length (length sent) → length sent ≡ packet_sent_length (blocks_to_follow sent)
unfolding blocks_to_follow
packet_told sent e = elim (cases_lt (length sent) 316) [
  | inl few ↦ absurd (let two = rw (packet_need-short sent few) at e in cc)
  | inr enough ↦ head_told (sent_head_of sent) (length sent) (sym (packet_need-long sent (omega arith)) ∙ e)
]

-- a broken data unit has the decoded identifier
same_duid : (place : ℕ) (nid : ℕ × ℕ) (sent : List Bool) (reading : Result Frame (List Field)) (at count nac duid : ℕ) (fields : List Field)
    → item_from place nid sent reading ≡ Broken at count nac duid fields → nid.1 ≡ duid
same_duid place nid sent (Ok frame) at count nac duid fields e = absurd (cc)
same_duid place nid sent (Err failing) at count nac duid fields e = cc

-- a broken packet into which its bits are divided has the length that its header states
pub broken_told : (item : Item) (sent : List Bool) (place count nac duid : ℕ) (fields : List Field) → IsReadFrom item sent → item ≡ Broken place count nac duid fields → duid ≡ 0xC
    → length sent ≡ packet_sent_length (blocks_to_follow sent)
unfolding IsReadFrom
broken_told item sent place count nac duid fields read is packet =
    let known = rw is at read in
    let found = IsIdentified-from sent (length sent) known.0 in
    let same : found.nid.1 ≡ duid
    = same_duid place found.nid sent (reading_from (Some found.nid) sent) place count nac duid fields
    (sym (unit_item_of-some place sent found.nid (reading_from (Some found.nid) sent) found.read refl) ∙ known.1) in
    packet_told sent (rw (same, packet, kind_need-packet) at found.kind)

-- the output for a broken packet
pub softened-packet : (item : Item) (levels : List ℤ) (sent : List Bool) (place count nac duid : ℕ) (fields : List Field) → item ≡ Broken place count nac duid fields → duid ≡ 0xC
    → softened item levels sent ≡ softened_packet fields levels sent
unfolding softened
softened-packet item levels sent place count nac duid fields is packet =
    rw (is, eq-eqb duid 0xC packet)

pub softened_count-packet : (item : Item) (sent : List Bool) (place count nac duid : ℕ) (fields : List Field) → item ≡ Broken place count nac duid fields → duid ≡ 0xC
    → softened_count item sent ≡ blocks_replaced fields (blocks_to_follow sent)
unfolding softened_count
softened_count-packet item sent place count nac duid fields is packet =
    rw (is, eq-eqb duid 0xC packet)

-- the output for another broken data unit
pub softened-unpacked : (item : Item) (levels : List ℤ) (sent : List Bool) (place count nac duid : ℕ) (fields : List Field) → item ≡ Broken place count nac duid fields → duid ≢ 0xC
    → softened item levels sent ≡ sent
unfolding softened
softened-unpacked item levels sent place count nac duid fields is other =
    rw (is, ne_eqb duid 0xC other)

pub softened_count-unpacked : (item : Item) (sent : List Bool) (place count nac duid : ℕ) (fields : List Field) → item ≡ Broken place count nac duid fields → duid ≢ 0xC → softened_count item sent ≡ 0
unfolding softened_count
softened_count-unpacked item sent place count nac duid fields is other =
    rw (is, ne_eqb duid 0xC other)

-- and for every other item
pub softened-other : (item : Item) (levels : List ℤ) (sent : List Bool)
    → ((place count nac duid : ℕ) (fields : List Field) → item ≡ Broken place count nac duid fields → ⊥) → softened item levels sent ≡ sent
unfolding softened
softened-other (Broken place count nac duid fields) levels sent other = absurd (other place count nac duid fields refl)
softened-other item levels sent other = refl

pub softened_count-other : (item : Item) (sent : List Bool) → ((place count nac duid : ℕ) (fields : List Field) → item ≡ Broken place count nac duid fields → ⊥) → softened_count item sent ≡ 0
unfolding softened_count
softened_count-other (Broken place count nac duid fields) sent other = absurd (other place count nac duid fields refl)
softened_count-other item sent other = refl

-- the item of a data unit is the decoding of its bits
read_from : (item : Item) (place : ℕ) (sent : List Bool) → need_of sent ≡ Length (length sent) → place_of item ≡ place → unit_item_of place sent ≡ item → IsReadFrom item sent
unfolding IsReadFrom
read_from (Broken at count nac duid fields) place sent need here is = (need, ap (λ p. unit_item_of p sent) here ∙ is)
read_from item place sent need here is = tt

pub IsHeard-unit : (levels : List ℤ) (sent : List Bool) (place count : ℕ) → sent ≡ hard_bits levels → need_of sent ≡ Length count → count ≡ length sent → IsHeard (unit_item_of place sent) levels sent
IsHeard-unit levels sent place count hard need whole =
    let all : length sent ≤ count = omega arith in
    let taken : take count sent ≡ sent = take_all count sent all in
    let known : need_of sent ≡ Length (length sent) = need ∙ ap Length whole in record {
      covers = sym whole ∙ sym (covered-unit_item_of place sent count need) ∙ ap (λ (bits : List Bool). covered (unit_item_of place bits)) taken;
      hard = hard;
      read = read_from (unit_item_of place sent) place sent known (place_of-unit_item_of place sent) refl;
    }

-- a broken packet at the beginning of bits has the levels from which its bits were decided
pub IsHeard-front : (levels : List ℤ) (bits : List Bool) (place count at size nac duid : ℕ) (fields : List Field) → has_sync bits ≡ true → need_of bits ≡ Length count
    → unit_item_of place (take count bits) ≡ Broken at size nac duid fields → duid ≡ 0xC → take count bits ≡ hard_bits levels
    → IsHeard (unit_item_of place (take count bits)) levels (take count bits)
IsHeard-front levels bits place count at size nac duid fields synced need is packet hard =
    let sent = take count bits in
    let unit = IsUnitAt-from bits 0 count (omega arith) need in
    let there : count ≤ length bits = omega (arith, unit.there) in
    let same : unit.nid.1 ≡ duid
    = same_duid place unit.nid sent (reading_from (Some unit.nid) sent) at size nac duid fields
    (sym (unit_item_of-some place sent unit.nid (reading_from (Some unit.nid) sent) unit.sent refl) ∙ is) in
    IsHeard-unit levels sent place count hard (need_of-packet_alone bits count unit.nid synced unit.read (same ∙ packet) unit.kind there) (sym (length-take-le count bits there))
