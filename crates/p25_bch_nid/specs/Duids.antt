-- The data unit identifiers (DUID) of the data units that the toolkit decodes (TIA-102.BAAA, Data Unit Identifier).
use Rattle.std.specs.Prelude.{ℕ}

-- a header
abbrev pub duid_hdu : ℕ
duid_hdu = 0x0

-- a terminator
abbrev pub duid_tdu : ℕ
duid_tdu = 0x3

-- voice with link control (LC)
abbrev pub duid_ldu1 : ℕ
duid_ldu1 = 0x5

-- voice with encryption sync (ES)
abbrev pub duid_ldu2 : ℕ
duid_ldu2 = 0xA

-- a packet
abbrev pub duid_pdu : ℕ
duid_pdu = 0xC

-- a terminator with link control (LC)
abbrev pub duid_tdulc : ℕ
duid_tdulc = 0xF
