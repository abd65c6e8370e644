-- The blocks of a message that a receiver keeps, each at the index of its serial number; the blocks of a message among the slots of packets, in
-- whatever order they arrive, and the message read back from them.
use Rattle.std.specs.Prelude.{ℕ, ◌-◌, nat_lt, nat_le, Bool, false, List, [], ◌∷◌, ◌++◌, length, map, replicate, slice_set, Option, Some, None, is_some, if◌then◌else◌, ◌≡◌, ◌<◌, ◌⊎◌}
pub use Rattle.p25_packet_blocks.specs.Parts.{BlockParts}
pub use Rattle.p25_packet_blocks.specs.declared.block.Slot.{Slot, TheVariants.{Good, Bad}}
use Rattle.p25_delivery.specs.MessageBlocks.{block_count, message_block, unpadded}

-- entries with a block stored at the index of its serial number, if there is such an entry
unfoldable pub put_block : List (Option BlockParts) → BlockParts → List (Option BlockParts)
put_block places block = if nat_lt block.serial (length places) then slice_set places block.serial (Some block) else places

-- entries with the slots of a packet: each `Good` block is stored in its entry, in the order of the slots
unfoldable pub put_slots : List (Option BlockParts) → List Slot → List (Option BlockParts)
put_slots places [] = places
put_slots places (Bad ∷ slots) = put_slots places slots
put_slots places (Good block ∷ slots) = put_slots (put_block places block) slots

-- the octets of a block before those of all others, if none of the others is missing
abbrev pub before_octets : List ℕ → Option (List ℕ) → Option (List ℕ)
before_octets octets None = None
before_octets octets (Some others) = Some (octets ++ others)

-- the octets of all blocks, in the order of their entries: none if an entry is empty
unfoldable pub all_octets : List (Option BlockParts) → Option (List ℕ)
all_octets [] = Some []
all_octets (None ∷ places) = None
all_octets (Some block ∷ places) = before_octets block.octets (all_octets places)

-- the number of flags of a selective retry for a number of blocks
abbrev pub flag_count : ℕ → ℕ
flag_count blocks = if nat_le blocks 64 then 64 else 128

-- a flag for each entry, true if its block is held, and false ones after them
unfoldable pub held_flags : List (Option BlockParts) → List Bool
held_flags places = map is_some places ++ replicate (flag_count (length places) - length places) false

-- each block that slots hold is the block of a message with its serial number
unfoldable pub AreBlocksOf : List ℕ → List Slot → Type 0
AreBlocksOf message [] = Unit {0}
AreBlocksOf message (Bad ∷ slots) = AreBlocksOf message slots
AreBlocksOf message (Good block ∷ slots) = (block ≡ message_block message block.serial) × AreBlocksOf message slots

-- slots hold a block with a serial number
unfoldable pub HoldsSerial : ℕ → List Slot → Type 0
HoldsSerial serial [] = ⊥
HoldsSerial serial (Bad ∷ slots) = HoldsSerial serial slots
HoldsSerial serial (Good block ∷ slots) = (block.serial ≡ serial) ⊎ HoldsSerial serial slots

-- slots that hold all blocks of a message and no others, in any order, and each any number of times
pub record CarriesMessage (message : List ℕ) (slots : List Slot) : Type 0 where
  pub blocks : AreBlocksOf message slots
  pub all : (serial : ℕ) → serial < block_count (length message) → HoldsSerial serial slots

-- the message of octets that may be missing
unfoldable pub unpadded_option : Option (List ℕ) → ℕ → Option (List ℕ)
unpadded_option None pad = None
unpadded_option (Some octets) pad = unpadded octets pad

-- the message read back from slots, stored in a number of empty entries
unfoldable pub read_back : ℕ → ℕ → List Slot → Option (List ℕ)
read_back count pad slots = unpadded_option (all_octets (put_slots (replicate count None) slots)) pad
