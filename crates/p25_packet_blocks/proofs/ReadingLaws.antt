-- The decodings by their cases: each arm of a definition with the facts that choose it, and the lengths of the results.
use Rattle.std.proofs.Common.{◌≡◌, ◌≢◌, ℕ, ◌+◌, ◌-◌, ◌*◌, ◌/◌, ◌%◌, ◌≤◌, inl, inr, Bool, true, false, ◌||◌, eqb, List, [], ◌∷◌, ◌++◌, length, take, drop, slice_index, Ok, Err, refl, sym, ◌∙◌}
use Rattle.std.proofs.lemmas.Bool.{cond-true, cond-false, eq-eqb, ne_eqb}
use Rattle.p25_bits.specs.Numbers.{octets_number}
use Rattle.p25_bits.proofs.NumbersLaws.{length-numbers_from, each_below-zero, each_below-more, joined_below-zero, joined_below-more, length-each_below, length-joined_below}
use Rattle.p25_status.specs.{declared.fields.Field.{Field}, declared.fields.Field.TheVariants.{PacketHeader, Format, PacketCrc}}
use Rattle.p25_trellis.specs.Nearest.{nearest_octets, half_octets, three_quarter_octets}
use Rattle.p25_crc.specs.Values.{crc9_of, crc16_of, crc32_of}
use Rattle.p25_packet_blocks.specs.{declared.head.PacketHead.{PacketHead}, declared.block.Slot.TheVariants.{Good, Bad}, declared.packet.Packet.TheVariants.{Confirmed, Plain}}
use Rattle.p25_packet_blocks.specs.{Heads.{head_format, head_blocks}, Kinds.{IsPlainFormat}, Lengths.{packet_bits}}
use Rattle.p25_packet_blocks.specs.Reading.{header_bits, block_bits, head_from, head_reading_of, slot_from, slots_read, octets_read, plain_from, packet_of_head, packet_from, packet_reading_of, HasItsLength}

-- The header.

pub head_from-good : (octets : List ℕ) (check : ℕ) → check ≡ octets_number (drop 10 octets) → check ≡ crc16_of (take 10 octets) → head_from octets ≡ Ok (record { 0 = take 10 octets })
unfolding head_from
head_from-good octets check is agrees = cond-true (eqb (octets_number (drop 10 octets)) (crc16_of (take 10 octets))) _ _ (eq-eqb _ _ (sym is ∙ agrees))

pub head_from-bad : (octets : List ℕ) (check : ℕ) → check ≡ octets_number (drop 10 octets) → check ≢ crc16_of (take 10 octets) → head_from octets ≡ Err PacketHeader
unfolding head_from
head_from-bad octets check is differs = cond-false (eqb (octets_number (drop 10 octets)) (crc16_of (take 10 octets))) _ _ (ne_eqb _ _ (λ agrees. differs (is ∙ agrees)))

pub head_reading_of-is : (bare : List Bool) → head_reading_of bare ≡ head_from (half_octets (header_bits bare))
unfolding head_reading_of
head_reading_of-is bare = refl

-- The slots of a confirmed packet.

pub slot_from-good : (octets : List ℕ) → 256 * (slice_index octets 0 % 2) + slice_index octets 1 ≡ crc9_of (slice_index octets 0 / 2) (drop 2 octets)
    → slot_from octets ≡ Good (record { serial = slice_index octets 0 / 2; octets = drop 2 octets })
unfolding slot_from
slot_from-good octets agrees = cond-true (eqb (256 * (slice_index octets 0 % 2) + slice_index octets 1) (crc9_of (slice_index octets 0 / 2) (drop 2 octets))) _ _ (eq-eqb _ _ agrees)

pub slot_from-bad : (octets : List ℕ) → 256 * (slice_index octets 0 % 2) + slice_index octets 1 ≢ crc9_of (slice_index octets 0 / 2) (drop 2 octets) → slot_from octets ≡ Bad
unfolding slot_from
slot_from-bad octets differs = cond-false (eqb (256 * (slice_index octets 0 % 2) + slice_index octets 1) (crc9_of (slice_index octets 0 / 2) (drop 2 octets))) _ _ (ne_eqb _ _ differs)

pub slots_read-zero : (bare : List Bool) → slots_read 0 bare ≡ []
unfolding slots_read
slots_read-zero bare = each_below-zero _

pub slots_read-more : (n : ℕ) (bare : List Bool) → slots_read (n + 1) bare ≡ slots_read n bare ++ slot_from (three_quarter_octets (block_bits bare n)) ∷ []
unfolding slots_read
slots_read-more n bare = each_below-more n _

pub length-slots_read : (n : ℕ) (bare : List Bool) → length (slots_read n bare) ≡ n
unfolding slots_read
length-slots_read n bare = length-each_below n _

-- The octets of another packet.

pub length-half_octets : (bits : List Bool) → length (half_octets bits) ≡ 12
unfolding nearest_octets
length-half_octets bits = length-numbers_from 8 12 _

pub length-three_quarter_octets : (bits : List Bool) → length (three_quarter_octets bits) ≡ 18
unfolding nearest_octets
length-three_quarter_octets bits = length-numbers_from 8 18 _

pub octets_read-zero : (bare : List Bool) → octets_read 0 bare ≡ []
unfolding octets_read
octets_read-zero bare = joined_below-zero _

pub octets_read-more : (n : ℕ) (bare : List Bool) → octets_read (n + 1) bare ≡ octets_read n bare ++ half_octets (block_bits bare n)
unfolding octets_read
octets_read-more n bare = joined_below-more n _

pub length-octets_read : (n : ℕ) (bare : List Bool) → length (octets_read n bare) ≡ 12 * n
unfolding octets_read
length-octets_read n bare = length-joined_below 12 n _ (λ j inside. length-half_octets (block_bits bare j))

or_left : (a b : Bool) → a ≡ true → (a || b) ≡ true
or_left a b is = rw is refl

or_right : (a b : Bool) → b ≡ true → (a || b) ≡ true
or_right true b is = refl
or_right false b is = is

or_none : (a b : Bool) → a ≡ false → b ≡ false → (a || b) ≡ false
or_none a b first second = rw (first, second) refl

-- no block to follow
pub plain_from-none : (head : PacketHead) (octets : List ℕ) → head_blocks head ≡ 0 → plain_from head octets ≡ Ok (Plain (record { head = head; octets = take (12 * head_blocks head - 4) octets }))
unfolding plain_from
plain_from-none head octets none =
    cond-true (eqb (head_blocks head) 0 || eqb (octets_number (drop (12 * head_blocks head - 4) octets)) (crc32_of (take (12 * head_blocks head - 4) octets))) _ _ (or_left _ _ (eq-eqb _ _ none))

-- the packet CRC agrees
pub plain_from-good : (head : PacketHead) (octets : List ℕ) → eqb (octets_number (drop (12 * head_blocks head - 4) octets)) (crc32_of (take (12 * head_blocks head - 4) octets)) ≡ true
    → plain_from head octets ≡ Ok (Plain (record { head = head; octets = take (12 * head_blocks head - 4) octets }))
unfolding plain_from
plain_from-good head octets agrees =
    cond-true (eqb (head_blocks head) 0 || eqb (octets_number (drop (12 * head_blocks head - 4) octets)) (crc32_of (take (12 * head_blocks head - 4) octets))) _ _ (or_right _ _ agrees)

-- there is a block to follow, and the packet CRC does not agree
pub plain_from-bad : (head : PacketHead) (octets : List ℕ) → head_blocks head ≢ 0 → eqb (octets_number (drop (12 * head_blocks head - 4) octets))
    (crc32_of (take (12 * head_blocks head - 4) octets)) ≡ false
    → plain_from head octets ≡ Err PacketCrc
unfolding plain_from
plain_from-bad head octets some differs =
    cond-false (eqb (head_blocks head) 0 || eqb (octets_number (drop (12 * head_blocks head - 4) octets)) (crc32_of (take (12 * head_blocks head - 4) octets))) _ _
    (or_none _ _ (ne_eqb _ _ some) differs)

-- The packet by its format.

pub packet_of_head-confirmed : (head : PacketHead) (bare : List Bool) → head_format head ≡ 0x16
    → packet_of_head head bare ≡ Ok (Confirmed (record { head = head; slots = slots_read (head_blocks head) bare }))
unfolding packet_of_head
packet_of_head-confirmed head bare is = cond-true (eqb (head_format head) 0x16) _ _ (eq-eqb _ _ is)

pub packet_of_head-plain : (head : PacketHead) (bare : List Bool) → IsPlainFormat (head_format head) → packet_of_head head bare ≡ plain_from head (octets_read (head_blocks head) bare)
unfolding packet_of_head
packet_of_head-plain head bare (inl is) = rw is refl
packet_of_head-plain head bare (inr is) = rw is refl

pub packet_of_head-other : (head : PacketHead) (bare : List Bool) → head_format head ≢ 0x16 → head_format head ≢ 0x15 → head_format head ≢ 0x03 → packet_of_head head bare ≡ Err Format
unfolding packet_of_head
packet_of_head-other head bare not_16 not_15 not_03 =
    cond-false (eqb (head_format head) 0x16) _ _ (ne_eqb _ _ not_16)
    ∙ cond-false (eqb (head_format head) 0x15 || eqb (head_format head) 0x03) _ _ (or_none _ _ (ne_eqb _ _ not_15) (ne_eqb _ _ not_03))

-- The packet of a data unit.

pub packet_reading_of-bad : (bare : List Bool) (field : Field) → head_reading_of bare ≡ Err field → packet_reading_of bare ≡ Err field
unfolding packet_reading_of packet_from
packet_reading_of-bad bare field is = rw is refl

pub packet_reading_of-good : (bare : List Bool) (head : PacketHead) → head_reading_of bare ≡ Ok head → packet_reading_of bare ≡ packet_of_head head bare
unfolding packet_reading_of packet_from
packet_reading_of-good bare head is = rw is refl

-- a data unit that has its length has it for its header
pub HasItsLength-head : (bare : List Bool) (head : PacketHead) → HasItsLength bare → head_reading_of bare ≡ Ok head → packet_bits (head_blocks head) ≤ length bare
unfolding HasItsLength
HasItsLength-head bare head has is = has head is
