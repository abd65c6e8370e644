-- Sendable packets (PDU): those with the invariants of their types and no slot that is `Bad`.
use Rattle.std.specs.Prelude.{◌≡◌, ℕ, ◌<◌, List, length, slice_index_or, All}
use Rattle.p25_packet_blocks.specs.{declared.head.PacketHead.{PacketHead}, declared.block.Block.{Block}, declared.block.Slot.{Slot}}
use Rattle.p25_packet_blocks.specs.{declared.block.Slot.TheVariants.{Good, Bad}, declared.packet.Packet.{Packet}}
use Rattle.p25_packet_blocks.specs.{declared.packet.Packet.TheVariants.{Confirmed, Plain}, ConfirmedParts.{ConfirmedParts}, Parts.{PlainParts}}
use Rattle.p25_packet_blocks.specs.{Kinds.{IsConfirmed, IsPlain}, Heads.{head_blocks}}

-- numbers that are octets
abbrev pub AreOctets : List ℕ → Type 0
AreOctets numbers = All (λ number. number < 256) numbers

-- the invariant of every header
pub record IsHead (head : PacketHead) : Type 0 where
  pub long : length head.0 ≡ 10
  pub small : AreOctets head.0

-- the invariant of every block
pub record IsDataBlock (block : Block) : Type 0 where
  pub serial_fits : block.serial < 128
  pub long : length block.octets ≡ 16
  pub small : AreOctets block.octets

-- each of the first n slots is `Good`, and its block has the invariant of blocks
pub record AreDataBlocks (slots : List Slot) (n : ℕ) : Type 0 where
  pub at : (j : ℕ) → j < n → (block : Block) × (slice_index_or slots j Bad ≡ Good block) × IsDataBlock block

-- a sendable confirmed packet
pub record IsSendableConfirmed (packet : ConfirmedParts) : Type 0 where
  pub kind : IsConfirmed packet
  pub head : IsHead packet.head
  pub good : AreDataBlocks packet.slots (head_blocks packet.head)

-- another sendable packet
pub record IsSendablePlain (packet : PlainParts) : Type 0 where
  pub kind : IsPlain packet
  pub head : IsHead packet.head
  pub small : AreOctets packet.octets

-- a sendable packet (PDU)
unfoldable pub IsSendable : Packet → Type 0
IsSendable (Confirmed packet) = IsSendableConfirmed packet
IsSendable (Plain packet) = IsSendablePlain packet
