-- The image by its positions: the list has the standard's part at each position, and no other list has. Each position of the list is found by the
-- lengths of the parts before it; a list is joined again from its parts that touch.
use Rattle.std.proofs.Common.{◌≡◌, ℕ, ◌+◌, ◌-◌, ◌*◌, ◌<◌, ◌≤◌, Bool, false, List, ◌++◌, length, take, drop, get_or, replicate, slice_get, Some, refl, sym, subst, ◌∙◌, arith, length-append, length-drop, All, append_assoc, take-append-drop}
use Rattle.std.proofs.{lemmas.List.{take_at, get_or-append_right, get_or-replicate, get_or-drop, same_lists, length-replicate}, lemmas.Option.{slice_get-get_or, get_or_from_slice_get}}
use Rattle.p25_bits.specs.{Bits.{part}, Numbers.{joined_below}}
use Rattle.p25_bits.proofs.{PartLaws.{part_add, part_left, part_behind, part_joined}, NumbersLaws.{length-joined_below, part-joined_below, joined_below-same, joined_below-parts}}
use Rattle.p25_unit_front.specs.Front.{unit_front, IsFront}
use Rattle.p25_unit_front.proofs.FrontLaws.{length-unit_front, IsFront-unit_front, unit_front-only}
use Rattle.p25_trellis.specs.{Trellis.{IsBlock}, Tables.{half_point, three_quarter_point}, Nearest.{half_block, three_quarter_block}}
use Rattle.p25_trellis.proofs.{ApartLaws.{length-block}, NearestLaws.{IsBlock-block_from, same_block_from}}
use Rattle.p25_packet_blocks.specs.{declared.packet.Packet.{Packet}, declared.packet.Packet.TheVariants.{Confirmed, Plain}, Heads.{head_blocks}, Whole.{packet_head}}
use Rattle.p25_packet_blocks.specs.{Lengths.{packet_bits, packet_bare_length}, Reading.{header_bits, block_bits}}
use Rattle.p25_packet_blocks.specs.{Image.{header_octets, confirmed_octets, checked_octets, body_block, packet_nulls, packet_image_of}, Sendable.{IsDataBlock, IsSendable}}
use Rattle.p25_packet_blocks.specs.Places.{IsBodyBlock, IsPacketImage}
use Rattle.p25_packet_blocks.proofs.ImageLaws.{length-header_octets, AreOctets-header_octets, length-confirmed_octets, AreOctets-confirmed_octets, body_block-confirmed, body_block-plain}
use Rattle.p25_packet_blocks.proofs.SendableLaws.{IsSendable-head, octets_of_block}

-- The transmitted bits of each block.

IsBlock-half : (octets : List ℕ) → length octets ≡ 12 → All (λ octet. octet < 256) octets → IsBlock 4 2 half_point octets (half_block octets)
IsBlock-half octets long small = IsBlock-block_from 4 2 half_point octets refl long small

IsBlock-three_quarter : (octets : List ℕ) → length octets ≡ 18 → All (λ octet. octet < 256) octets → IsBlock 8 3 three_quarter_point octets (three_quarter_block octets)
IsBlock-three_quarter octets long small = IsBlock-block_from 8 3 three_quarter_point octets refl long small

-- the header block
pub header_block : (packet : Packet) → IsSendable packet → IsBlock 4 2 half_point (header_octets (packet_head packet)) (half_block (header_octets (packet_head packet)))
header_block packet sendable =
    let head = IsSendable-head packet sendable in
    IsBlock-half (header_octets (packet_head packet)) (length-header_octets (packet_head packet) head) (AreOctets-header_octets (packet_head packet) head)

-- each block to follow
pub IsBodyBlock-body_block : (packet : Packet) → IsSendable packet → (j : ℕ) → j < head_blocks (packet_head packet) → IsBodyBlock packet j (body_block packet j)
unfolding IsSendable IsBodyBlock
IsBodyBlock-body_block (Confirmed packet) sendable j inside =
    let good = sendable.good.at j inside in (
      good.0,
      good.1,
      subst (IsBlock 8 3 three_quarter_point (confirmed_octets good.0)) (sym (body_block-confirmed packet j good.0 good.1))
          (IsBlock-three_quarter (confirmed_octets good.0) (length-confirmed_octets good.0 good.2) (AreOctets-confirmed_octets good.0 good.2)),
    )
IsBodyBlock-body_block (Plain packet) sendable j inside =
    let octets = octets_of_block packet sendable j inside in
    simp body_block-plain (IsBlock-half (part (12 * j) 12 (checked_octets packet.octets)) octets.0 octets.1)

-- and no other bits
pub body_block-only : (packet : Packet) → IsSendable packet → (j : ℕ) → j < head_blocks (packet_head packet) → (bits : List Bool) → IsBodyBlock packet j bits → bits ≡ body_block packet j
unfolding IsSendable IsBodyBlock
body_block-only (Confirmed packet) sendable j inside bits is =
    let keeps = sendable.good.at j inside in
    let keeping : IsDataBlock is.0 = subst IsDataBlock (sym (cc (is.1, keeps.1))) keeps.2 in
    same_block_from 8 3 three_quarter_point (confirmed_octets is.0) bits refl (length-confirmed_octets is.0 keeping) is.2 ∙ sym (body_block-confirmed packet j is.0 is.1)
body_block-only (Plain packet) sendable j inside bits is =
    let octets = octets_of_block packet sendable j inside in
    same_block_from 4 2 half_point (part (12 * j) 12 (checked_octets packet.octets)) bits refl octets.0 is ∙ sym (body_block-plain packet j)

-- a block to follow has 196 bits
pub length-body_block : (packet : Packet) → IsSendable packet → (j : ℕ) → j < head_blocks (packet_head packet) → length (body_block packet j) ≡ 196
unfolding IsBodyBlock
length-body_block (Confirmed packet) sendable j inside =
    let is = IsBodyBlock-body_block (Confirmed packet) sendable j inside in
    length-block 8 3 three_quarter_point (confirmed_octets is.0) (body_block (Confirmed packet) j) is.2
length-body_block (Plain packet) sendable j inside =
    length-block 4 2 half_point (part (12 * j) 12 (checked_octets packet.octets)) (body_block (Plain packet) j) (IsBodyBlock-body_block (Plain packet) sendable j inside)

-- an element that is there is the same with any default
same_element : (bits : List Bool) (i : ℕ) (d : Bool) → i < length bits → get_or bits i d ≡ get_or bits i false
same_element bits i d inside = get_or_from_slice_get bits i (get_or bits i false) d (slice_get-get_or bits i false inside)

-- a list of bits that are all 0
all_false : (bits : List Bool) (n : ℕ) → length bits ≡ n → ((i : ℕ) → i < length bits → get_or bits i false ≡ false) → bits ≡ replicate n false
all_false bits n long each =
    same_lists bits (replicate n false) (simp (long, length-replicate)) (λ i d inside. same_element bits i d inside ∙ each i inside ∙ sym (get_or-replicate n i false d (omega arith)))

-- The parts of the image.

module _ (nac : ℕ) (packet : Packet) (sendable : IsSendable packet) where
  -- the number of blocks to follow
  abbrev pub count : ℕ
  count = head_blocks (packet_head packet)

  abbrev pub front : List Bool
  front = unit_front nac 12

  abbrev pub header : List Bool
  header = half_block (header_octets (packet_head packet))

  abbrev pub body : List Bool
  body = joined_below count (body_block packet)

  long_header : length header ≡ 196
  long_header = length-block 4 2 half_point (header_octets (packet_head packet)) header (header_block packet sendable)

  long_body : length body ≡ 196 * count
  long_body = length-joined_below 196 count (body_block packet) (length-body_block packet sendable)

  long_start : length (front ++ header) ≡ 308
  long_start = length-append front header ∙ omega (arith, long_header, length-unit_front nac 12)

  long_bits : length (front ++ header ++ body) ≡ packet_bits count
  long_bits = rw length-append (omega (arith, long_start, long_body))

  filled : packet_bits count ≤ packet_bare_length count
  filled = omega arith

  grouped : packet_image_of nac packet ≡ front ++ header ++ body ++ packet_nulls count
  unfolding packet_image_of
  grouped = refl

  split : packet_image_of nac packet ≡ front ++ (header ++ (body ++ packet_nulls count))
  split = simp (grouped, append_assoc)

  pub image_long : length (packet_image_of nac packet) ≡ packet_bare_length count
  unfolding packet_nulls
  image_long =
      rw (grouped, length-append) (omega (arith, long_bits, filled, length-replicate (packet_bare_length count - packet_bits count) false))

  -- sync and NID
  pub image_front : take 112 (packet_image_of nac packet) ≡ front
  image_front = cc (split, take_at front (header ++ (body ++ packet_nulls count)) 112 (length-unit_front nac 12))

  -- the header block
  pub image_header : header_bits (packet_image_of nac packet) ≡ header
  image_header = cc (split, part_joined 112 196 front header (body ++ packet_nulls count) (length-unit_front nac 12) long_header)

  -- a block to follow
  pub image_block : (j : ℕ) → j < count → block_bits (packet_image_of nac packet) j ≡ body_block packet j
  image_block j inside =
      let there : 196 * j + 196 ≤ length body = omega (arith, long_body) in
      cc (
        long_start,
        grouped,
        append_assoc (front ++ header) body (packet_nulls count),
        part_behind (196 * j) 196 (front ++ header) (body ++ packet_nulls count),
        part_left (196 * j) 196 body (packet_nulls count) there,
        part-joined_below 196 count (body_block packet) j (length-body_block packet sendable) inside,
      )

  -- the nulls
  pub image_nulls : (place : ℕ) → packet_bits count ≤ place → place < length (packet_image_of nac packet) → slice_get (packet_image_of nac packet) place ≡ Some false
  unfolding packet_nulls
  image_nulls place behind inside =
      let left : place - packet_bits count < packet_bare_length count - packet_bits count = omega (arith, image_long) in
      cc (
        slice_get-get_or (packet_image_of nac packet) place false inside,
        grouped,
        get_or-append_right (front ++ header ++ body) (packet_nulls count) (packet_bits count) place false long_bits behind,
        get_or-replicate (packet_bare_length count - packet_bits count) (place - packet_bits count) false false left,
      )

  -- the image is as the standard says
  pub IsPacketImage-image : IsPacketImage nac packet (packet_image_of nac packet)
  IsPacketImage-image = record {
    long = image_long;
    front = subst (IsFront nac 12) (sym image_front) (IsFront-unit_front nac 12);
    header = subst (IsBlock 4 2 half_point (header_octets (packet_head packet))) (sym image_header) (header_block packet sendable);
    blocks = λ j inside. subst (IsBodyBlock packet j) (sym (image_block j inside)) (IsBodyBlock-body_block packet sendable j inside);
    nulls = image_nulls;
  }

  -- nothing else is
  pub IsPacketImage-only : (bits : List Bool) → IsPacketImage nac packet bits → bits ≡ packet_image_of nac packet
  unfolding packet_nulls
  IsPacketImage-only bits is =
      let head = packet_head packet in
      let first = unit_front-only nac 12 (take 112 bits) is.front in
      let second : part 112 196 bits ≡ header = same_block_from 4 2 half_point (header_octets head) (header_bits bits) refl (length-header_octets head (IsSendable-head packet sendable)) is.header in
      let third : part 308 (196 * count) bits ≡ body
      = sym (joined_below-parts 308 196 count bits) ∙ joined_below-same count (λ j. part (308 + 196 * j) 196 bits) (body_block packet)
      (λ j inside. body_block-only packet sendable j inside (block_bits bits j) (is.blocks j inside)) in
      let rest : drop (packet_bits count) bits ≡ replicate (packet_bare_length count - packet_bits count) false
      = all_false (drop (packet_bits count) bits) (packet_bare_length count - packet_bits count) (simp (length-drop, is.long))
      (λ i inside. get_or-drop (packet_bits count) bits i false ∙ get_or_from_slice_get bits (packet_bits count + i) false false
      (is.nulls (packet_bits count + i) (omega arith) (omega (arith, length-drop (packet_bits count) bits)))) in
      let place : 308 + 196 * count ≡ packet_bits count = omega arith in
      cc (take-append-drop (packet_bits count) bits, place, part_add 0 308 (196 * count) bits, part_add 0 112 196 bits, first, second, third, rest, grouped)
