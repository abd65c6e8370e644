-- The length of the data unit of a packet (PDU), by its number of blocks to follow.
use Rattle.std.specs.Prelude.{ℕ, ◌+◌, ◌*◌, ◌/◌}

-- the bits before the nulls: sync and NID, the header block and the blocks to follow
abbrev pub packet_bits : ℕ → ℕ
packet_bits n = 112 + 196 * (1 + n)

-- the number of groups of 70 bits that it fills, the last with nulls
abbrev pub packet_parts : ℕ → ℕ
packet_parts n = (packet_bits n + 69) / 70

-- the length without status symbols
abbrev pub packet_bare_length : ℕ → ℕ
packet_bare_length n = 70 * packet_parts n

-- the transmitted length
abbrev pub packet_sent_length : ℕ → ℕ
packet_sent_length n = 72 * packet_parts n
