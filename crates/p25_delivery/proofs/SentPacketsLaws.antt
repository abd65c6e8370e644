-- The slots of a message's packets, one more block, and the packets made of them. By the laws of lists by their positions.
use Rattle.std.proofs.Common.{◌≡◌, ℕ, ◌+◌, ◌-◌, ◌*◌, ◌/◌, ◌<◌, ◌≤◌, ◌⊎◌, inl, inr, Bool, true, false, cond, eqb, List, [], ◌∷◌, ◌++◌, length, map, ap, ap₂, sym, ◌∙◌, arith, length-append}
use Rattle.std.proofs.{lemmas.List.{map-append, append-nil}, lemmas.Option.{get_or_from_slice_get}}
use Rattle.std.specs.Prelude.{slice_get, slice_index_or, Some}
use Rattle.p25_bits.specs.{Bits.{part}, Numbers.{each_below, joined_below, octets_from}}
use Rattle.p25_bits.proofs.NumbersLaws.{each_below-more, joined_below-more, length-numbers_from}
use Rattle.p25_packet_blocks.specs.{Parts.{BlockParts}, Heads.{confirmed_head}, FlagOctets.{flag_octets}, declared.head.PacketHead.{PacketHead}, declared.block.Slot.{Slot}}
use Rattle.p25_packet_blocks.specs.declared.packet.Packet.TheVariants.{Confirmed}
use Rattle.p25_delivery.specs.MessageBlocks.{block_count, pad_count, message_octets, message_block, message_blocks}
use Rattle.p25_delivery.specs.SentPackets.{station_llid, good_slot, message_packet, wanted_slots, blocks_packet}

-- the block of a serial number, from the octets of its message
pub block_of_octets : (message octets : List ℕ) (serial : ℕ) (block : BlockParts)
    → octets ≡ message_octets message → block ≡ record { serial = serial; octets = part (16 * serial) 16 octets } → block ≡ message_block message serial
unfolding message_block
block_of_octets message octets serial block e b = cc

-- all slots, one more
pub slots_more : (message : List ℕ) (before after : List Slot) (serial : ℕ) (block : BlockParts)
    → before ≡ map good_slot (each_below serial (message_block message)) → block ≡ message_block message serial →
    after ≡ before ++ good_slot block ∷ [] → after ≡ map good_slot (each_below (serial + 1) (message_block message))
slots_more message before after serial block b e a =
    cc (map-append good_slot (each_below serial (message_block message)) (message_block message serial ∷ []), each_below-more serial (message_block message))

-- the whole packet
pub message_packet-is : (number : ℕ) (message : List ℕ) (head : PacketHead) (slots : List Slot) (count pad : ℕ)
    → head ≡ confirmed_head station_llid true count pad number → count ≡ block_count (length message) →
    pad ≡ pad_count (length message) → slots ≡ map good_slot (each_below count (message_block message)) → Confirmed (record { head = head; slots = slots }) ≡ message_packet number message
unfolding message_packet message_blocks
message_packet-is number message head slots count pad h c p s =
    cc

-- the slots that the block of a serial number adds to the requested ones
abbrev pub wanted_slot : List ℕ → List Bool → ℕ → List Slot
wanted_slot message wanted serial = cond (slice_index_or wanted serial false) (good_slot (message_block message serial) ∷ []) []

pub wanted_more : (message : List ℕ) (wanted : List Bool) (before after : List Slot) (serial : ℕ) (block : BlockParts)
    → before ≡ joined_below serial (wanted_slot message wanted) → slice_get wanted serial ≡ Some true →
    block ≡ message_block message serial → after ≡ before ++ good_slot block ∷ [] → after ≡ joined_below (serial + 1) (wanted_slot message wanted)
wanted_more message wanted before after serial block b w e a =
    let here : wanted_slot message wanted serial ≡ good_slot (message_block message serial) ∷ []
    = cc (get_or_from_slice_get wanted serial true false w) in
    cc (joined_below-more serial (wanted_slot message wanted))

pub wanted_same : (message : List ℕ) (wanted : List Bool) (before : List Slot) (serial : ℕ) → before ≡ joined_below serial (wanted_slot message wanted) → slice_get wanted serial ≡ Some false →
    before ≡ joined_below (serial + 1) (wanted_slot message wanted)
wanted_same message wanted before serial b w =
    let here : wanted_slot message wanted serial ≡ [] = cc (get_or_from_slice_get wanted serial false false w) in
    cc (append-nil (joined_below serial (wanted_slot message wanted)), joined_below-more serial (wanted_slot message wanted))

-- the packet of the requested blocks
pub blocks_packet-is : (number : ℕ) (message : List ℕ) (wanted : List Bool) (head : PacketHead) (slots : List Slot) (pad : ℕ)
    → head ≡ confirmed_head station_llid false (length slots) pad number → pad ≡ pad_count (length message) →
    slots ≡ wanted_slots message wanted → Confirmed (record { head = head; slots = slots }) ≡ blocks_packet number message wanted
unfolding blocks_packet
blocks_packet-is number message wanted head slots pad h p s =
    cc

-- flags fill the blocks of a selective retry: 64 fill one, and 128 two
pub length-flag_octets : (flags : List Bool) (octets : List ℕ) (blocks : ℕ)
    → octets ≡ flag_octets flags → (length flags ≡ 64) ⊎ (length flags ≡ 128) → (length flags ≤ 64 → blocks ≡ 1) → (64 < length flags → blocks ≡ 2) →
    length octets ≡ 12 * blocks - 4
unfolding flag_octets
length-flag_octets flags octets blocks o (inl e) few many =
    let one : blocks ≡ 1 = few (omega arith) in
    let eight : length octets ≡ 8
    = cc (append-nil (octets_from 8 flags), length-numbers_from 8 8 flags) in
    omega arith
length-flag_octets flags octets blocks o (inr e) few many =
    let two : blocks ≡ 2 = many (omega arith) in
    let twenty : length octets ≡ 20
    = cc (length-append (octets_from 16 flags) (0 ∷ 0 ∷ 0 ∷ 0 ∷ []), length-numbers_from 8 16 flags) in
    omega arith
