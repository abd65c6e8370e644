-- The decoded parts of a data unit whose last bits have not arrived.
use Rattle.std.specs.Prelude.{◌≡◌, ◌≤◌, Bool, List, Option, Some, None, Ok, length}
use Rattle.p25_bch_nid.specs.declared.nid.ReadNid.{ReadNid}
use Rattle.p25_unit_front.specs.Front.{front_fixes_of, identifier_of}
use Rattle.p25_packet_blocks.specs.{declared.head.ReadHead.{ReadHead}, UnitReading.{sent_read_of}}
use Rattle.p25_units.specs.declared.begun.Begun.{Begun}

-- nothing is decoded, or the network identifier (NID) with which the data unit begins, and the number of bit errors of sync and NID
abbrev pub IsIdentifier : Option ReadNid → List Bool → Type 0
IsIdentifier None bits = Unit {0}
IsIdentifier (Some read) bits =
    (114 ≤ length bits) × (identifier_of bits ≡ Some (read.nid.nac, read.nid.duid)) × (read.wrong ≡ front_fixes_of (read.nid.nac, read.nid.duid) bits)

-- nothing is decoded, or the header of the packet (PDU), and the number of bit errors of its block
abbrev pub IsHeader : Option ReadHead → List Bool → Type 0
IsHeader None bits = Unit {0}
IsHeader (Some read) bits = (316 ≤ length bits) × (sent_read_of bits ≡ Ok read)

-- the decoded parts are true of the data unit with which some bits begin
unfoldable pub IsBegun : Begun → List Bool → Type 0
IsBegun begun bits = IsIdentifier begun.nid bits × IsHeader begun.head bits
