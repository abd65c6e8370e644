-- A transmitted data unit of a packet: its header block between status symbols, and that it decodes to the packet within the correction radius. Sync
-- and NID are decoded by their laws, the rest without status symbols.
use Rattle.std.proofs.{Common.{◌≡◌, ℕ, ◌*◌, ◌≤◌, Bool, List, ◌++◌, length, take, Ok, refl, ap, sym, subst, ◌∙◌, arith}, lemmas.List.{take_all}}
use Rattle.p25_bits.specs.{Distance.{distance_of}}
use Rattle.p25_bits.proofs.{PartLaws.{part_add}, DistanceLaws.{distance_of-same}}
use Rattle.p25_status.specs.{declared.symbols.Status.{Status}, Sync.{sync_slack}, Woven.{bare_of}}
use Rattle.p25_status.proofs.{SyncLaws.{has_sync-yes}, WovenLaws.{length-woven, bare_of-woven, part-bare_of}}
use Rattle.p25_unit_front.specs.Front.{unit_front, front_of, identifier_bits}
use Rattle.p25_unit_front.proofs.FrontLaws.{front_of-bare_of, front_of-sync, front_of-identifier, identifier_of-near}
use Rattle.p25_packet_blocks.specs.{declared.packet.Packet.{Packet}, Heads.{head_blocks}, Whole.{packet_head}, Lengths.{packet_bare_length, packet_sent_length}}
use Rattle.p25_packet_blocks.specs.{Reading.{header_bits, block_bits, head_from, read_head_of, head_reading_of, packet_of_head}, Image.{packet_image_of}, Sendable.{IsSendable}}
use Rattle.p25_packet_blocks.specs.{Within.{block_radius, AreBlocksWithin, IsPacketWithin, IsSending, sent_unit}, UnitReading.{sent_header_bits, sent_head_of, sent_read_of, packet_unit_of}}
use Rattle.p25_packet_blocks.proofs.{ReadingLaws.{head_reading_of-is}, UnitLaws.{sent_header_bits-is, sent_head_of-is, sent_packet_of-whole, packet_unit_of-good}, SendableLaws.{IsSendable-head}}
use Rattle.p25_packet_blocks.proofs.{PlacesLaws.{image_long, image_front}, RadiusLaws.{HalfNear, ThreeQuarterNear, head_again, head_within, body_within}}

-- the header block of a transmitted data unit is that of its bits without status symbols
pub sent_header_bits-bare_of : (blocks : ℕ) (sent : List Bool) → 5 ≤ blocks → length sent ≡ 72 * blocks → sent_header_bits sent ≡ header_bits (bare_of sent)
sent_header_bits-bare_of blocks sent five long =
    let bare = bare_of sent in
    let join : List Bool → List Bool → List Bool = λ xs ys. xs ++ ys in
    cc (
      sent_header_bits-is sent,
      part-bare_of blocks 1 42 28 sent long (omega arith) (omega arith),
      part-bare_of blocks 2 0 70 sent long (omega arith) (omega arith),
      part-bare_of blocks 3 0 70 sent long (omega arith) (omega arith),
      part-bare_of blocks 4 0 28 sent long (omega arith) (omega arith),
      part_add 112 28 70 bare,
      part_add 112 98 70 bare,
      part_add 112 168 28 bare,
    )

-- so its header is
pub sent_head_of-bare_of : (blocks : ℕ) (sent : List Bool) → 5 ≤ blocks → length sent ≡ 72 * blocks → sent_head_of sent ≡ head_reading_of (bare_of sent)
sent_head_of-bare_of blocks sent five long =
    cc (sent_head_of-is sent, sent_header_bits-bare_of blocks sent five long, head_reading_of-is (bare_of sent))

-- and its bit errors
pub sent_read_of-bare_of : (blocks : ℕ) (sent : List Bool) → 5 ≤ blocks → length sent ≡ 72 * blocks → sent_read_of sent ≡ read_head_of (header_bits (bare_of sent))
unfolding sent_read_of
sent_read_of-bare_of blocks sent five long = cc (sent_header_bits-bare_of blocks sent five long)

module _ (half : HalfNear) (three_quarter : ThreeQuarterNear) (nac : ℕ) (packet : Packet) (statuses : List Status) (sending : IsSending nac packet statuses) where
  sendable : IsSendable packet
  sendable = sending.sendable

  counted : 70 * length statuses ≡ packet_bare_length (head_blocks (packet_head packet))
  counted = sending.counted

  abbrev pub whole : List Bool
  whole = sent_unit nac packet statuses

  image_counted : length (packet_image_of nac packet) ≡ 70 * length statuses
  image_counted = image_long nac packet sendable ∙ sym counted

  five : 5 ≤ length statuses
  five = omega (arith, counted)

  long_whole : length whole ≡ 72 * length statuses
  long_whole = length-woven (packet_image_of nac packet) statuses image_counted

  bare : bare_of whole ≡ packet_image_of nac packet
  bare = bare_of-woven (packet_image_of nac packet) statuses image_counted

  front : front_of whole ≡ unit_front nac 12
  front = cc (front_of-bare_of (length statuses) whole (omega (arith, five)) long_whole, bare, image_front nac packet sendable)

  -- a correctable data unit decodes to its network access code and packet
  pub sent_within : (received : List Bool) → IsPacketWithin packet whole received → packet_unit_of received ≡ Ok (nac, packet)
  sent_within received within =
      let head = packet_head packet in
      let long : length received ≡ 72 * length statuses = within.long ∙ long_whole in
      let blocks : AreBlocksWithin packet (packet_image_of nac packet) (bare_of received) = simp bare at within.blocks in
      let enough : packet_sent_length (head_blocks head) ≡ length received = omega (arith, long, counted) in
      packet_unit_of-good received (
        nac,
        12,
      ) packet (has_sync-yes received (omega (arith, long, five)) (subst (λ (xs : List Bool). distance_of (take 48 received) xs ≤ sync_slack)
      (front_of-sync nac 12 whole (omega (arith, long_whole, five)) front) within.sync))
      (identifier_of-near nac 12 received sending.nac_fits (omega arith) (omega (arith, long, five))
      (subst (λ (xs : List Bool). distance_of (take 63 (identifier_bits received)) (take 63 xs) ≤ 11)
      (front_of-identifier nac 12 whole (omega (arith, long_whole, five)) front) within.identifier)) refl
      (sent_packet_of-whole received head (sent_head_of-bare_of (length statuses) received five long ∙ head_reading_of-is (bare_of received)
      ∙ ap head_from (head_within half three_quarter nac packet (bare_of received) sendable blocks) ∙ head_again head (IsSendable-head packet sendable)) (omega (arith, enough))
      ∙ ap (λ xs. packet_of_head head (bare_of xs)) (take_all (packet_sent_length (head_blocks head)) received (omega (arith, enough)))
      ∙ body_within half three_quarter nac packet (bare_of received) sendable blocks)

  none_wrong : (bits : List Bool) (most : ℕ) → distance_of bits bits ≤ most
  none_wrong bits most = omega (arith, distance_of-same bits)

  -- and so does the data unit itself
  pub sent_again : packet_unit_of whole ≡ Ok (nac, packet)
  sent_again =
      sent_within whole (record {
        long = refl;
        sync = none_wrong (take 48 whole) 4;
        identifier = none_wrong (take 63 (identifier_bits whole)) 11;
        blocks = record { long = refl; header = none_wrong (header_bits (bare_of whole)) 2; blocks = λ j inside. none_wrong (block_bits (bare_of whole) j) (block_radius packet) };
      })
