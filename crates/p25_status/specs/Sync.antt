-- The frame sync, with its threshold, and the lengths of the parts of a data unit at fixed positions.
use Rattle.std.specs.Prelude.{ℕ, ◌&&◌, Bool, List, nat_le, length, take}
use Rattle.p25_bits.specs.{Bits.{bits_of}, Distance.{distance_of}}

-- the number of bits of a frame sync
abbrev pub sync_length : ℕ
sync_length = 48

-- the number of bits of a network identifier (NID), which follows the sync
abbrev pub identifier_length : ℕ
identifier_length = 64

-- the number of bits of a data unit before each status symbol
abbrev pub bare_block_length : ℕ
bare_block_length = 70

-- the number of transmitted bits of such a block: the status symbol has two
abbrev pub sent_block_length : ℕ
sent_block_length = 72

-- the 48 bits of the frame sync, 5575F5FF77FF hex
unfoldable pub sync_bits : List Bool
sync_bits = bits_of 48 0x5575_F5FF_77FF

-- the most bit errors of a detected sync
abbrev pub sync_slack : ℕ
sync_slack = 4

-- bits begin with a sync: there are at least 48, and the first 48 differ from the sync in at most `sync_slack` positions
unfoldable pub has_sync : List Bool → Bool
has_sync bits = nat_le sync_length (length bits) && nat_le (distance_of (take sync_length bits) sync_bits) sync_slack
