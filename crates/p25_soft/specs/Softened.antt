-- An item's bits with the blocks of a broken packet (PDU) decoded from levels.
use Rattle.std.specs.Prelude.{◌≡◌, ℕ, zero, suc, ◌+◌, ◌*◌, ◌/◌, Bool, true, false, ◌||◌, ◌==◌, List, ◌++◌, length, take, drop, ℤ, pos, slice_index_or, Result, Ok, Err, if◌then◌else◌}
use Rattle.std.specs.List.{list_any}
use Rattle.p25_bits.specs.Numbers.{each_below, joined_below}
use Rattle.p25_status.specs.{Woven.{woven, bare_of, statuses_of}, declared.fields.Field.{Field}, declared.fields.Field.TheVariants.{PacketCrc, Block}}
use Rattle.p25_bch_nid.specs.Duids.{duid_pdu}
use Rattle.p25_trellis.specs.Tables.{half_point, three_quarter_point}
use Rattle.p25_packet_blocks.specs.{declared.head.PacketHead.{PacketHead}, Heads.{head_blocks}, Reading.{block_bits}, UnitReading.{sent_head_of}}
use Rattle.p25_units.specs.{Items.{covered, unit_item_of}, Needs.{need_of}, declared.needs.Need.TheVariants.{Length}, declared.item.Item.{Item}}
use Rattle.p25_units.specs.declared.item.Item.TheVariants.{Broken}
use Rattle.p25_soft.specs.{Levels.{hard_bits}, SoftPaths.{soft_block}}

-- the position at which dibit d of a data unit without status symbols is transmitted: one dibit is a status symbol after every 35
unfoldable pub sent_dibit : ℕ → ℕ
sent_dibit d = d + d / 35

-- the levels of the block at position j after the header block, whose dibits are those from 154 + 98·j on
unfoldable pub block_levels : List ℤ → ℕ → List ℤ
block_levels levels j = each_below 98 (λ i. slice_index_or levels (sent_dibit (154 + 98 * j + i)) (pos 0))

-- a field is the packet CRC
unfoldable pub is_packet_crc : Field → Bool
is_packet_crc PacketCrc = true
is_packet_crc field = false

-- a field is the block at position j
unfoldable pub is_block : ℕ → Field → Bool
is_block j (Block place) = place == j
is_block j field = false

-- the failing fields include the packet CRC, and so all blocks
unfoldable pub names_all : List Field → Bool
names_all fields = list_any is_packet_crc fields

-- they include the block at position j
unfoldable pub names_block : List Field → ℕ → Bool
names_block fields j = list_any (is_block j) fields

-- the block at position j of a broken packet: if the packet CRC fails, the transmitted bits of its soft path at half rate; if the block itself fails,
-- those at three-quarter rate; and otherwise the former bits
unfoldable pub softened_block : List Field → List ℤ → List Bool → ℕ → List Bool
softened_block fields levels bare j =
    if names_all fields
    then soft_block 4 half_point (block_levels levels j)
    else (if names_block fields j then soft_block 8 three_quarter_point (block_levels levels j) else block_bits bare j)

-- the number of the first n blocks that are replaced
unfoldable pub blocks_replaced : List Field → ℕ → ℕ
blocks_replaced fields zero = 0
blocks_replaced fields (suc n) = blocks_replaced fields n + (if names_all fields || names_block fields n then 1 else 0)

-- the number of blocks to follow that the header of a packet (PDU) states
unfoldable pub told_blocks : Result PacketHead Field → ℕ
told_blocks (Ok head) = head_blocks head
told_blocks (Err field) = 0

-- the number of blocks to follow of the packet with these transmitted bits
unfoldable pub blocks_to_follow : List Bool → ℕ
blocks_to_follow sent = told_blocks (sent_head_of sent)

-- the data unit of a packet (PDU) with n blocks to follow, without status symbols, its blocks replaced
unfoldable pub softened_bare : List Field → List ℤ → ℕ → List Bool → List Bool
softened_bare fields levels n bare = take 308 bare ++ joined_below n (softened_block fields levels bare) ++ drop (308 + 196 * n) bare

-- the transmitted bits of a broken packet (PDU), its blocks replaced
unfoldable pub softened_packet : List Field → List ℤ → List Bool → List Bool
softened_packet fields levels sent = woven (softened_bare fields levels (blocks_to_follow sent) (bare_of sent)) (statuses_of sent)

-- the bits of an item, the blocks of a broken packet (PDU) replaced
unfoldable pub softened : Item → List ℤ → List Bool → List Bool
softened (Broken place count nac duid fields) levels sent = if duid == duid_pdu then softened_packet fields levels sent else sent
softened item levels sent = sent

-- the number of blocks of an item that are replaced
unfoldable pub softened_count : Item → List Bool → ℕ
softened_count (Broken place count nac duid fields) sent = if duid == duid_pdu then blocks_replaced fields (blocks_to_follow sent) else 0
softened_count item sent = 0

-- a broken item is the one into which its bits are divided: a data unit of their length, with the fields that fail in it
unfoldable pub IsReadFrom : Item → List Bool → Type 0
IsReadFrom (Broken place count nac duid fields) sent =
    (need_of sent ≡ Length (length sent)) × (unit_item_of place sent ≡ Broken place count nac duid fields)
IsReadFrom item sent = Unit {0}

-- an item with the bits that it covers and the levels from which they were decided
pub record IsHeard (item : Item) (levels : List ℤ) (sent : List Bool) : Type 0 where
  pub covers : length sent ≡ covered item
  pub hard : sent ≡ hard_bits levels
  pub read : IsReadFrom item sent
