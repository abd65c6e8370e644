-- The conditions for a confirmed and for an unconfirmed packet (PDU).
use Rattle.std.specs.Prelude.{◌≡◌, ℕ, ◌-◌, ◌*◌, ◌⊎◌, length}
use Rattle.p25_packet_blocks.specs.{Heads.{confirmed_format, plain_format, response_format, head_format, head_blocks}, Parts.{PlainParts}}
use Rattle.p25_packet_blocks.specs.ConfirmedParts.{ConfirmedParts}

-- a confirmed packet: format 16 hex, and a slot for each block to follow
pub record IsConfirmed (packet : ConfirmedParts) : Type 0 where
  pub format : head_format packet.head ≡ confirmed_format
  pub count : length packet.slots ≡ head_blocks packet.head

-- the formats of unconfirmed packets: 15 hex for data and 03 hex for a response
abbrev pub IsPlainFormat : ℕ → Type 0
IsPlainFormat format = (format ≡ plain_format) ⊎ (format ≡ response_format)

-- another packet: twelve octets for each block to follow, without the four of the packet CRC, or none if there is no block to follow
pub record IsPlain (packet : PlainParts) : Type 0 where
  pub format : IsPlainFormat (head_format packet.head)
  pub count : length packet.octets ≡ 12 * head_blocks packet.head - 4
