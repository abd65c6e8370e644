-- The names of the fields that fail.
use Rattle.std.specs.Prelude.{ℕ, List, ◌++◌, codes, decimal}
use Rattle.p25_line.specs.CommaLists.{comma_text}
use Rattle.p25_status.specs.declared.fields.Field.{Field}
use Rattle.p25_status.specs.declared.fields.Field.TheVariants.{Sync, Nid, Duid, HeaderWord, LinkControl, EncryptionSync, LowSpeed1, LowSpeed2, PacketHeader, Length, Format, PacketCrc, Block}

-- the name of a field
abbrev pub field_name : Field → List ℕ
field_name Sync = codes "sync"
field_name Nid = codes "nid"
field_name Duid = codes "duid"
field_name HeaderWord = codes "header_word"
field_name LinkControl = codes "link_control"
field_name EncryptionSync = codes "encryption_sync"
field_name LowSpeed1 = codes "low_speed_1"
field_name LowSpeed2 = codes "low_speed_2"
field_name PacketHeader = codes "packet_header"
field_name Length = codes "length"
field_name Format = codes "format"
field_name PacketCrc = codes "packet_crc"
field_name (Block block) = codes "block." ++ decimal block

-- the names of fields, with commas between them
abbrev pub field_names : List Field → List ℕ
field_names fields = comma_text field_name fields
