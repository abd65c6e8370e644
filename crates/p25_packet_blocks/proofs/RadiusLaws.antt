-- Received bits within the correction radius of a packet decode to that packet: each block decodes to the transmitted octets, their checks agree, and
-- so every step of the decoding gives the value in the packet.
use Rattle.std.proofs.Common.{◌≡◌, ℕ, ◌+◌, ◌-◌, ◌*◌, ◌/◌, ◌%◌, ◌<◌, ◌≤◌, inl, inr, Bool, List, ◌∷◌, length, take, drop, get_or, Ok, ap, sym, ◌∙◌, arith}
use Rattle.std.proofs.{lemmas.Bool.{cases_eq, eq-eqb}, lemmas.List.{take_at, drop_at, take_all, take-take}}
use Rattle.p25_bits.specs.{Bits.{part}, Distance.{distance_of}, Numbers.{octets_number, number_after}}
use Rattle.p25_bits.proofs.{PartLaws.{length-part}, NumbersLaws.{each_below-same, each_below-list, joined_below-same, joined_below-parts}}
use Rattle.p25_trellis.specs.Nearest.{half_octets, three_quarter_octets, half_block, three_quarter_block}
use Rattle.p25_crc.specs.Values.{crc9_of, crc16_of, crc32_of}
use Rattle.p25_crc.proofs.ChecksLaws.{crc9_of-lt}
use Rattle.p25_packet_blocks.specs.{declared.head.PacketHead.{PacketHead}, declared.block.Block.{Block}, declared.block.Slot.{Slot}, declared.block.Slot.TheVariants.{Good, Bad}}
use Rattle.p25_packet_blocks.specs.{declared.packet.Packet.{Packet}, declared.packet.Packet.TheVariants.{Confirmed, Plain}, ConfirmedParts.{ConfirmedParts}, Parts.{BlockParts, PlainParts}}
use Rattle.p25_packet_blocks.specs.{Heads.{head_blocks}, Whole.{packet_head}, Lengths.{packet_bare_length}}
use Rattle.p25_packet_blocks.specs.Reading.{header_bits, block_bits, head_from, slot_from, slots_read, octets_read, packet_of_head, packet_reading_of}
use Rattle.p25_packet_blocks.specs.{Image.{two_octets, four_octets, header_octets, confirmed_octets, checked_octets, packet_image_of}, Sendable.{AreOctets, IsHead, IsDataBlock, IsSendable}}
use Rattle.p25_packet_blocks.specs.Within.{AreBlocksWithin}
use Rattle.p25_packet_blocks.proofs.ReadingLaws.{head_from-good, head_reading_of-is, slot_from-good, plain_from-none, plain_from-good, packet_of_head-confirmed, packet_of_head-plain, packet_reading_of-good}
use Rattle.p25_packet_blocks.proofs.ImageLaws.{header_octets-is, length-header_octets, AreOctets-header_octets, confirmed_octets-is, length-confirmed_octets, AreOctets-confirmed_octets, checked_octets-is, length-checked_octets, body_block-confirmed, body_block-plain}
use Rattle.p25_packet_blocks.proofs.{SendableLaws.{IsSendable-head, octets_of_block}, PlacesLaws.{image_long, image_header, image_block}}

-- Written values decode to themselves.

number_of_two_octets : (number : ℕ) → octets_number (two_octets number) ≡ number
unfolding octets_number number_after
number_of_two_octets number = omega arith

number_of_four_octets : (number : ℕ) → octets_number (four_octets number) ≡ number
unfolding octets_number number_after
number_of_four_octets number = omega arith

-- a header
pub head_again : (head : PacketHead) → IsHead head → head_from (header_octets head) ≡ Ok head
head_again head is =
    let check = crc16_of head.0 in
    let octets = header_octets head in
    let first : take 10 octets ≡ head.0 = cc (header_octets-is head, take_at head.0 (two_octets check) 10 is.long) in
    let last : drop 10 octets ≡ two_octets check = cc (header_octets-is head, drop_at head.0 (two_octets check) 10 is.long) in
    let make : List ℕ → PacketHead = λ xs. record { 0 = xs } in
    head_from-good octets check (simp (number_of_two_octets, last)) (simp first) ∙ ap (λ xs. Ok (make xs)) first

-- a confirmed block
pub slot_again : (block : Block) → IsDataBlock block → slot_from (confirmed_octets block) ≡ Good block
slot_again block is =
    let check = crc9_of block.serial block.octets in
    let first = 512 * block.serial + check in
    let serial : first / 256 / 2 ≡ block.serial = omega (arith, crc9_of-lt block.serial block.octets) in
    let nine : 256 * (first / 256 % 2) + first % 256 ≡ check = omega (arith, crc9_of-lt block.serial block.octets) in
    let make : ℕ → BlockParts = λ n. record { serial = n; octets = block.octets } in
    ap slot_from (confirmed_octets-is block)
    ∙ slot_from-good (first / 256 ∷ first % 256 ∷ block.octets) (simp (nine, serial))
    ∙ ap (λ n. Good (make n)) serial

-- octets with their check
module _ (octets : List ℕ) where
  pub checked_front : take (length octets) (checked_octets octets) ≡ octets
  checked_front = simp (checked_octets-is, take_at)

  pub checked_number : octets_number (drop (length octets) (checked_octets octets)) ≡ crc32_of octets
  checked_number =
      simp (checked_octets-is, drop_at, number_of_four_octets)

-- Blocks with few bit errors.

-- a half-rate block with at most two bit errors decodes to the transmitted octets
abbrev pub HalfNear : Type 0
HalfNear = (octets : List ℕ) (received : List Bool) → length octets ≡ 12 → AreOctets octets → length received ≡ 196 → distance_of (half_block octets) received ≤ 2 → half_octets received ≡ octets

-- a three-quarter-rate block with at most one bit error decodes to the transmitted octets
abbrev pub ThreeQuarterNear : Type 0
ThreeQuarterNear =
    (octets : List ℕ) (received : List Bool) → length octets ≡ 18 → AreOctets octets → length received ≡ 196 → distance_of (three_quarter_block octets) received ≤ 1
    → three_quarter_octets received ≡ octets

module _ (half : HalfNear) (three_quarter : ThreeQuarterNear) (nac : ℕ) where
  -- a block that was received has its length
  long_block : (packet : Packet) (received : List Bool) → length received ≡ packet_bare_length (head_blocks (packet_head packet)) → (j : ℕ) → j < head_blocks (packet_head packet)
      → length (block_bits received j) ≡ 196
  long_block packet received long j inside = length-part (308 + 196 * j) 196 received (omega arith)

  -- the header
  pub head_within : (packet : Packet) (received : List Bool) → IsSendable packet → AreBlocksWithin packet (packet_image_of nac packet) received
      → half_octets (header_bits received) ≡ header_octets (packet_head packet)
  head_within packet received sendable within =
      let head = IsSendable-head packet sendable in
      let long : length received ≡ packet_bare_length (head_blocks (packet_head packet)) = within.long ∙ image_long nac packet sendable in
      half (header_octets (packet_head packet)) (header_bits received) (length-header_octets (packet_head packet) head) (AreOctets-header_octets (packet_head packet) head)
      (length-part 112 196 received (omega arith)) (simp image_header at within.header)

  -- a slot
  slot_within : (packet : ConfirmedParts) (received : List Bool) (sendable : IsSendable (Confirmed packet)) → AreBlocksWithin (Confirmed packet) (packet_image_of nac (Confirmed packet)) received
      → (j : ℕ) → j < head_blocks packet.head → slot_from (three_quarter_octets (block_bits received j)) ≡ get_or packet.slots j Bad
  unfolding IsSendable
  slot_within packet received sendable within j inside =
      let good = sendable.good.at j inside in
      let block = good.0 in
      let sent = image_block nac (Confirmed packet) sendable j inside ∙ body_block-confirmed packet j block good.1 in
      let long = long_block (Confirmed packet) received (simp (within.long, image_long)) j inside in
      ap slot_from (three_quarter (confirmed_octets block) (block_bits received j) (length-confirmed_octets block good.2) (AreOctets-confirmed_octets block good.2) long
      (simp sent at (within.blocks j inside)))
      ∙ slot_again block good.2
      ∙ sym good.1

  -- the octets of a half-rate block
  octets_within : (packet : PlainParts) (received : List Bool) (sendable : IsSendable (Plain packet)) → AreBlocksWithin (Plain packet) (packet_image_of nac (Plain packet)) received
      → (j : ℕ) → j < head_blocks packet.head → half_octets (block_bits received j) ≡ part (12 * j) 12 (checked_octets packet.octets)
  unfolding IsSendable
  octets_within packet received sendable within j inside =
      let octets = octets_of_block packet sendable j inside in
      let sent = image_block nac (Plain packet) sendable j inside ∙ body_block-plain packet j in
      let long = long_block (Plain packet) received (simp (within.long, image_long)) j inside in
      half (part (12 * j) 12 (checked_octets packet.octets)) (block_bits received j) octets.0 octets.1 long (simp sent at (within.blocks j inside))

  -- the bits after the header
  pub body_within : (packet : Packet) (received : List Bool) → IsSendable packet → AreBlocksWithin packet (packet_image_of nac packet) received
      → packet_of_head (packet_head packet) received ≡ Ok packet
  unfolding IsSendable slots_read octets_read
  body_within (Confirmed packet) received sendable within =
      let n = head_blocks packet.head in
      let make : List Slot → ConfirmedParts = λ slots. record { head = packet.head; slots = slots } in
      let counted : length packet.slots ≡ n = sendable.kind.count in
      packet_of_head-confirmed packet.head received sendable.kind.format
      ∙ ap (λ slots. Ok (Confirmed (make slots)))
      (each_below-same n (λ j. slot_from (three_quarter_octets (block_bits received j))) (λ j. get_or packet.slots j Bad) (slot_within packet received sendable within)
      ∙ each_below-list packet.slots Bad n (omega arith)
      ∙ take_all n packet.slots (omega arith))
  body_within (Plain packet) received sendable within =
      let n = head_blocks packet.head in
      let octets = packet.octets in
      let checked = checked_octets octets in
      let make : List ℕ → PlainParts = λ carried. record { head = packet.head; octets = carried } in
      let read : octets_read n received ≡ take (12 * n) checked
      = joined_below-same n (λ j. half_octets (block_bits received j)) (λ j. part (0 + 12 * j) 12 checked)
      (λ j inside. octets_within packet received sendable within j inside ∙ ap (λ k. part k 12 checked) ((omega arith)))
      ∙ joined_below-parts 0 12 n checked in
      let counted : length octets ≡ 12 * n - 4 = sendable.kind.count in
      let front : take (12 * n - 4) (octets_read n received) ≡ octets
      = cc (read, take-take (12 * n - 4) (12 * n) checked (omega arith), counted, checked_front octets) in
      packet_of_head-plain packet.head received sendable.kind.format
      ∙ elim (cases_eq n 0) [
        | inl none ↦ plain_from-none packet.head (octets_read n received) none
        | inr some ↦
            let last : drop (12 * n - 4) (octets_read n received) ≡ drop (length octets) checked = ap (drop (12 * n - 4)) (read
            ∙ take_all (12 * n) checked (omega (arith, length-checked_octets octets)))
            ∙ ap (λ k. drop k checked) (sym counted) in
            plain_from-good packet.head (octets_read n received) (eq-eqb _ _ (simp (last, checked_number, front)))
      ]
      ∙ ap (λ carried. Ok (Plain (make carried))) front

  -- the whole data unit, without status symbols
  pub packet_within : (packet : Packet) (received : List Bool) → IsSendable packet → AreBlocksWithin packet (packet_image_of nac packet) received → packet_reading_of received ≡ Ok packet
  packet_within packet received sendable within =
      packet_reading_of-good received (packet_head packet) (cc (
        head_reading_of-is received,
        head_within packet received sendable within,
        head_again (packet_head packet) (IsSendable-head packet sendable),
      ))
      ∙ body_within packet received sendable within
