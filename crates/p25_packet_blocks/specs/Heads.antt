-- The fields of the ten octets of the header of a packet (PDU), and the headers that this project makes.
use Rattle.std.specs.Prelude.{ℕ, ◌+◌, ◌*◌, ◌/◌, ◌%◌, Bool, if◌then◌else◌, ◌==◌, List, [], ◌∷◌, ◌++◌, slice_index}
use Rattle.p25_bits.specs.Numbers.{triple_at}
use Rattle.p25_packet_blocks.specs.declared.head.PacketHead.{PacketHead}

-- the formats: that of a confirmed packet, of an unconfirmed one and of a response
abbrev pub confirmed_format : ℕ
confirmed_format = 0x16

abbrev pub plain_format : ℕ
plain_format = 0x15

abbrev pub response_format : ℕ
response_format = 0x03

-- the format: the last five bits of octet 0
unfoldable pub head_format : PacketHead → ℕ
head_format head = slice_index head.0 0 % 32

-- the full message flag: the first bit of octet 6
unfoldable pub head_is_full : PacketHead → Bool
head_is_full head = slice_index head.0 6 / 128 == 1

-- the number of blocks to follow: the last seven bits of octet 6
unfoldable pub head_blocks : PacketHead → ℕ
head_blocks head = slice_index head.0 6 % 128

-- the pad count: the last five bits of octet 7
unfoldable pub head_pad : PacketHead → ℕ
head_pad head = slice_index head.0 7 % 32

-- the LLID: octets 3 to 5
unfoldable pub head_llid : PacketHead → ℕ
head_llid head = triple_at head.0 3

-- Syn: the first bit of octet 8
unfoldable pub head_syn : PacketHead → Bool
head_syn head = slice_index head.0 8 / 128 == 1

-- N(S): the three bits of octet 8 after the first
unfoldable pub head_number : PacketHead → ℕ
head_number head = slice_index head.0 8 / 16 % 8

-- the class of a response: the first two bits of octet 1
unfoldable pub response_class : PacketHead → ℕ
response_class head = slice_index head.0 1 / 64

-- the type of a response: the three bits of octet 1 after the class
unfoldable pub response_kind : PacketHead → ℕ
response_kind head = slice_index head.0 1 / 8 % 8

-- the status of a response: the last three bits of octet 1
unfoldable pub response_status : PacketHead → ℕ
response_status head = slice_index head.0 1 % 8

-- the three octets of an LLID, the first highest
abbrev pub llid_octets : ℕ → List ℕ
llid_octets llid = llid / 65536 ∷ llid / 256 % 256 ∷ llid % 256 ∷ []

-- the ten octets of a header, by those before its LLID, its LLID, and those after it
abbrev pub head_by_octets : (first second : ℕ) → ℕ → (seventh eighth ninth : ℕ) → PacketHead
head_by_octets first second llid seventh eighth ninth =
    record { 0 = first ∷ second ∷ 0 ∷ [] ++ llid_octets llid ++ seventh ∷ eighth ∷ ninth ∷ 0 ∷ [] }

-- the header of a confirmed packet, by its LLID, full message flag, blocks to follow, pad count and N(S)
unfoldable pub confirmed_head : ℕ → Bool → ℕ → ℕ → ℕ → PacketHead
confirmed_head llid full blocks pad number = head_by_octets 0x56 0xC0 llid ((if full then 128 else 0) + blocks) pad (16 * number + 8)

-- the header of an unconfirmed packet, by its LLID, blocks to follow and pad count, with the full message flag
unfoldable pub plain_head : ℕ → ℕ → ℕ → PacketHead
plain_head llid blocks pad = head_by_octets 0x35 0xC0 llid (128 + blocks) pad 0

-- the header of a response, by its LLID, class, type, status and blocks to follow
unfoldable pub response_head : ℕ → ℕ → ℕ → ℕ → ℕ → PacketHead
response_head llid class kind status blocks = head_by_octets 0x23 (64 * class + 8 * kind + status) llid (128 + blocks) 0 0

-- the header of the packet that opens a session, by its LLID and number: a confirmed packet of no blocks with Syn
unfoldable pub opening_head : ℕ → ℕ → PacketHead
opening_head llid number = head_by_octets 0x56 0xC0 llid 0x80 0 (0x88 + 16 * number)
