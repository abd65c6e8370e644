-- The tables of what a voice unit and a packet decode to and of their lines, row by row: each row is an equation.
use Rattle.std.specs.Prelude.{◌≡◌, ℕ, ◌+◌, ◌*◌, ◌-◌, ◌<◌, ◌/◌, ◌%◌, ◌==◌, if◌then◌else◌, Bool, List, [], ◌∷◌, ◌++◌, map, take, drop, slice_index, codes, Option, Some, None, option_map, Result, Ok, Err, ◌⊎◌}
use Rattle.std.specs.List.{flat_map, join_with_byte}
use Rattle.hex.specs.Hex.{encode_lower}
use Rattle.p25_bits.specs.{Bits.{field_of, part}, Numbers.{each_below, joined_below, octets_from, octets_number}}
use Rattle.p25_hamming.specs.{Hamming10Laws.{hamming10_reading_of}, Lsd16Laws.{lsd16_reading_of}}
use Rattle.p25_golay.specs.{Golay18Laws.{golay18_reading_of}, Golay24Laws.{golay24_reading_of}}
use Rattle.p25_reed_solomon.specs.RsReadings.{rs_erased_reading_of}
use Rattle.p25_trellis.specs.Nearest.{half_octets, three_quarter_octets}
use Rattle.p25_crc.specs.Values.{crc9_of, crc16_of, crc32_of}
use Rattle.p25_status.specs.{declared.fields.Field.{Field}, declared.fields.Field.TheVariants.{HeaderWord, LinkControl, EncryptionSync, LowSpeed1, LowSpeed2, PacketHeader, PacketCrc, Format}}
use Rattle.p25_link.specs.{Symbols.{symbol_bits}, declared.encryption.EncryptionSync.{EncryptionSync as Sync}, declared.encryption.HeaderWord.{HeaderWord as Word}}
use Rattle.p25_line.specs.{CommaLists.{list_text}, Octets.{octets_text}, Values.{three_digits}}
use Rattle.p25_link.specs.declared.link_control.LinkControl.{LinkControl as Link}
use Rattle.p25_coded_fields.specs.Layouts.{Layout, field_layout, field_reading_of, places_from}
use Rattle.p25_voice_units.specs.{Lengths.{voice_length_of}, Readings.{voice_reading_of}, declared.unit.VoiceUnit.{VoiceUnit}, declared.voice.VoiceFrame.{VoiceFrame}}
use Rattle.p25_voice_units.specs.declared.unit.VoiceUnit.TheVariants.{Header, Link1, Link2, End, EndLink}
use Rattle.p25_packet_blocks.specs.{Reading.{head_reading_of, packet_reading_of}, declared.head.PacketHead.{PacketHead}, declared.packet.Packet.{Packet}}
use Rattle.p25_voice_units.specs.Fixes.{wide}
use Rattle.p25_packet_blocks.specs.Whole.{packet_head}
use Rattle.p25_units.specs.{Fixes.{looked_of}, declared.unit.Body.TheVariants.{Voice, Packet as Pdu}}
use Rattle.p25_text.specs.Grammar.{text_of}
use Rattle.p25_packet_blocks.specs.{declared.block.Slot.{Slot}, declared.block.Slot.TheVariants.{Good, Bad}, declared.packet.Packet.TheVariants.{Confirmed, Plain}}

-- ---- voice units

-- the inner codewords, their decoder and the outer codeword of each row
abbrev pub hdu_row : Layout
hdu_row = field_layout (places_from 112 18 36) 18 1 golay18_reading_of (rs_erased_reading_of 36 20) 20

abbrev pub ldu_places : List ℕ
ldu_places = flat_map (λ at. places_from at 10 4) (400 ∷ 584 ∷ 768 ∷ 952 ∷ 1136 ∷ 1320 ∷ [])

abbrev pub ldu1_row : Layout
ldu1_row = field_layout ldu_places 10 1 hamming10_reading_of (rs_erased_reading_of 24 12) 12

abbrev pub ldu2_row : Layout
ldu2_row = field_layout ldu_places 10 1 hamming10_reading_of (rs_erased_reading_of 24 16) 16

abbrev pub tdulc_row : Layout
tdulc_row = field_layout (places_from 112 24 12) 24 2 golay24_reading_of (rs_erased_reading_of 24 12) 12

-- the octets of the keys of each field, in the order of the table of lines
abbrev pub word_of : List Bool → Word
word_of bits = record {
  mi = octets_from 9 bits;
  mfid = field_of (part 72 8 bits);
  algid = field_of (part 80 8 bits);
  kid = field_of (part 88 16 bits);
  tgid = field_of (part 104 16 bits);
}

abbrev pub link_of : List Bool → Link
link_of bits = record { 0 = octets_from 9 bits }

abbrev pub sync_of : List Bool → Sync
sync_of bits = record { mi = octets_from 9 bits; algid = field_of (part 72 8 bits); kid = field_of (part 80 16 bits) }

-- the bits of a field, if it is decoded
abbrev pub field_bits_of : Layout → List Bool → Option (List Bool)
field_bits_of row bare = option_map symbol_bits (field_reading_of row bare)

-- the octet of the codeword of low speed data from a bit on, if it is decoded
abbrev pub low_at : ℕ → List Bool → Option ℕ
low_at at bare = option_map (λ word. field_of (take 8 word)) (lsd16_reading_of (part at 16 bare))

-- the nine voice frames of an LDU, eighteen octets each
abbrev pub frames_of : List Bool → List VoiceFrame
frames_of bare = map (λ at. record { 0 = octets_from 18 (drop at bare) }) (112 ∷ 256 ∷ 440 ∷ 624 ∷ 808 ∷ 992 ∷ 1176 ∷ 1360 ∷ 1536 ∷ [])

-- a field that is not decoded, as a list
abbrev pub fails : {X : Type 0} → Field → Option X → List Field
fails field None = field ∷ []
fails field (Some value) = []

-- a unit with one field: what that decodes to, or the field
abbrev pub one_field : Field → (List Bool → VoiceUnit) → Option (List Bool) → Result VoiceUnit (List Field)
one_field field unit (Some bits) = Ok (unit bits)
one_field field unit None = Err (field ∷ [])

-- an LDU: if its field and both octets of low speed data are decoded the unit, else the fields that fail, in order
abbrev pub three_fields : Field → (List Bool → List ℕ → VoiceUnit) → Option (List Bool) → Option ℕ → Option ℕ → Result VoiceUnit (List Field)
three_fields field unit (Some bits) (Some first) (Some second) = Ok (unit bits (first ∷ second ∷ []))
three_fields field unit bits first second = Err (fails field bits ++ fails LowSpeed1 first ++ fails LowSpeed2 second)

-- the rows of the table of voice units
pub record VoiceRows : Type 0 where
  pub bits : (voice_length_of 0 ≡ Some 770) × (voice_length_of 5 ≡ Some 1680) × (voice_length_of 10 ≡ Some 1680) × (voice_length_of 3 ≡ Some 140)
      × (voice_length_of 15 ≡ Some 420)
  pub hdu : (bare : List Bool) → voice_reading_of 0 bare ≡ one_field HeaderWord (λ bits. Header (word_of bits)) (field_bits_of hdu_row bare)
  pub ldu1 : (bare : List Bool) → voice_reading_of 5 bare
      ≡ three_fields LinkControl (λ bits low. Link1 (link_of bits) low (frames_of bare)) (field_bits_of ldu1_row bare) (low_at 1504 bare) (low_at 1520 bare)
  pub ldu2 : (bare : List Bool) → voice_reading_of 10 bare
      ≡ three_fields EncryptionSync (λ bits low. Link2 (sync_of bits) low (frames_of bare)) (field_bits_of ldu2_row bare) (low_at 1504 bare) (low_at 1520 bare)
  pub tdu : (bare : List Bool) → voice_reading_of 3 bare ≡ Ok End
  pub tdulc : (bare : List Bool) → voice_reading_of 15 bare ≡ one_field LinkControl (λ bits. EndLink (link_of bits)) (field_bits_of tdulc_row bare)

-- ---- packets

-- octets 0 and 6 of a header as the page has them
abbrev pub format_of : PacketHead → ℕ
format_of head = slice_index head.0 0 % 32

abbrev pub blocks_of : PacketHead → ℕ
blocks_of head = slice_index head.0 6 % 128

-- the bits of block j
abbrev pub block_at : ℕ → List Bool → List Bool
block_at j bare = part (308 + 196 * j) 196 bare

-- the header that the twelve octets of its block are: the first ten, if the last two are their check
abbrev pub header_row : List ℕ → Result PacketHead Field
header_row octets = if octets_number (drop 10 octets) == crc16_of (take 10 octets) then Ok (record { 0 = take 10 octets }) else Err PacketHeader

-- a confirmed block by its eighteen octets: seven bits of serial number, nine bits of check, sixteen octets
abbrev pub confirmed_row : List ℕ → Slot
confirmed_row octets =
    let serial = slice_index octets 0 / 2 in
    let check = 256 * (slice_index octets 0 % 2) + slice_index octets 1 in
    if check == crc9_of serial (drop 2 octets) then Good (record { serial = serial; octets = drop 2 octets }) else Bad

-- all octets of the half-rate blocks of a packet, and how many of them come before the check
abbrev pub octets_of_blocks : PacketHead → List Bool → List ℕ
octets_of_blocks head bare = joined_below (blocks_of head) (λ j. half_octets (block_at j bare))

abbrev pub before_check : PacketHead → ℕ
before_check head = 12 * blocks_of head - 4

-- the rows of the table of packets: the header, and by its format what the packet decodes to
pub record PacketRows : Type 0 where
  pub header : (bare : List Bool) → head_reading_of bare ≡ header_row (half_octets (part 112 196 bare))
  pub no_header : (bare : List Bool) (field : Field) → head_reading_of bare ≡ Err field → packet_reading_of bare ≡ Err field
  pub confirmed : (bare : List Bool) (head : PacketHead) → head_reading_of bare ≡ Ok head → format_of head ≡ 22
      → packet_reading_of bare
      ≡ Ok (Confirmed (record { head = head; slots = each_below (blocks_of head) (λ j. confirmed_row (three_quarter_octets (block_at j bare))) }))
  pub plain : (bare : List Bool) (head : PacketHead) → head_reading_of bare ≡ Ok head → (format_of head ≡ 21) ⊎ (format_of head ≡ 3) → 0 < blocks_of head
      → octets_number (drop (before_check head) (octets_of_blocks head bare)) ≡ crc32_of (take (before_check head) (octets_of_blocks head bare))
      → packet_reading_of bare ≡ Ok (Plain (record { head = head; octets = take (before_check head) (octets_of_blocks head bare) }))
  pub plain_fails : (bare : List Bool) (head : PacketHead) → head_reading_of bare ≡ Ok head → (format_of head ≡ 21) ⊎ (format_of head ≡ 3) → 0 < blocks_of head
      → (octets_number (drop (before_check head) (octets_of_blocks head bare)) ≡ crc32_of (take (before_check head) (octets_of_blocks head bare)) → ⊥)
      → packet_reading_of bare ≡ Err PacketCrc
  pub no_blocks : (bare : List Bool) (head : PacketHead) → head_reading_of bare ≡ Ok head → (format_of head ≡ 21) ⊎ (format_of head ≡ 3) → blocks_of head ≡ 0
      → packet_reading_of bare ≡ Ok (Plain (record { head = head; octets = [] }))
  pub others : (bare : List Bool) (head : PacketHead) → head_reading_of bare ≡ Ok head
      → (format_of head ≡ 22 → ⊥) → (format_of head ≡ 21 → ⊥) → (format_of head ≡ 3 → ⊥)
      → packet_reading_of bare ≡ Err Format

-- ---- a unit

-- the examined bits of each type of data unit, without status symbols: an index and a number of bits each. Each has the sync and the
-- first 63 bits of the identifier; then come the inner codewords, the codewords of low speed data, and the blocks
pub record ExaminedRows : Type 0 where
  pub hdu : (nac : ℕ) (word : Word) → looked_of (record { nac = nac; body = Voice (Header word) }) ≡ (0, 111) ∷ wide 18 (places_from 112 18 36)
  pub ldu1 : (nac : ℕ) (link : Link) (low : List ℕ) (voice : List VoiceFrame)
      → looked_of (record { nac = nac; body = Voice (Link1 link low voice) }) ≡ (0, 111) ∷ wide 10 ldu_places ++ wide 16 (1504 ∷ 1520 ∷ [])
  pub ldu2 : (nac : ℕ) (sync : Sync) (low : List ℕ) (voice : List VoiceFrame)
      → looked_of (record { nac = nac; body = Voice (Link2 sync low voice) }) ≡ (0, 111) ∷ wide 10 ldu_places ++ wide 16 (1504 ∷ 1520 ∷ [])
  pub tdu : (nac : ℕ) → looked_of (record { nac = nac; body = Voice End }) ≡ (0, 111) ∷ []
  pub tdulc : (nac : ℕ) (link : Link) → looked_of (record { nac = nac; body = Voice (EndLink link) }) ≡ (0, 111) ∷ wide 24 (places_from 112 24 12)
  pub packet : (nac : ℕ) (packet : Packet)
      → looked_of (record { nac = nac; body = Pdu packet }) ≡ (0, 111) ∷ (112, 196) ∷ each_below (blocks_of (packet_head packet)) (λ j. (308 + 196 * j, 196))

-- ---- lines

-- the words of a line with single spaces, a number of two octets, and a block of a confirmed packet, with a colon (58)
abbrev pub spaced : List (List ℕ) → List ℕ
spaced words = join_with_byte 32 words

abbrev pub two_octets : ℕ → List ℕ
two_octets number = encode_lower (number / 256 ∷ number % 256 ∷ [])

abbrev pub block_words : Slot → List ℕ
block_words (Good block) = encode_lower (block.serial ∷ []) ++ 58 ∷ encode_lower block.octets
block_words Bad = []

-- the octets of voice frames, one frame after the other
abbrev pub voice_digits : List VoiceFrame → List ℕ
voice_digits voice = encode_lower (flat_map (λ frame. frame.0) voice)

-- the rows of the table of lines: the type, and then each key with its value
pub record LineRows : Type 0 where
  pub hdu : (nac : ℕ) (word : Word) → text_of (record { nac = nac; body = Voice (Header word) })
      ≡ spaced (codes "hdu" ∷ (codes "nac=" ++ three_digits nac) ∷ (codes "mi=" ++ encode_lower word.mi) ∷ (codes "mfid=" ++ encode_lower (word.mfid ∷ []))
      ∷ (codes "algid=" ++ encode_lower (word.algid ∷ [])) ∷ (codes "kid=" ++ two_octets word.kid) ∷ (codes "tgid=" ++ two_octets word.tgid) ∷ [])
  pub ldu1 : (nac : ℕ) (link : Link) (low : List ℕ) (voice : List VoiceFrame) → text_of (record { nac = nac; body = Voice (Link1 link low voice) })
      ≡ spaced (codes "ldu1" ∷ (codes "nac=" ++ three_digits nac) ∷ (codes "lc=" ++ encode_lower link.0) ∷ (codes "lsd=" ++ encode_lower low)
      ∷ (codes "voice=" ++ voice_digits voice) ∷ [])
  pub ldu2 : (nac : ℕ) (sync : Sync) (low : List ℕ) (voice : List VoiceFrame) → text_of (record { nac = nac; body = Voice (Link2 sync low voice) })
      ≡ spaced (codes "ldu2" ∷ (codes "nac=" ++ three_digits nac) ∷ (codes "mi=" ++ encode_lower sync.mi) ∷ (codes "algid=" ++ encode_lower (sync.algid ∷ []))
      ∷ (codes "kid=" ++ two_octets sync.kid) ∷ (codes "lsd=" ++ encode_lower low) ∷ (codes "voice=" ++ voice_digits voice) ∷ [])
  pub tdu : (nac : ℕ) → text_of (record { nac = nac; body = Voice End }) ≡ spaced (codes "tdu" ∷ (codes "nac=" ++ three_digits nac) ∷ [])
  pub tdulc : (nac : ℕ) (link : Link) → text_of (record { nac = nac; body = Voice (EndLink link) })
      ≡ spaced (codes "tdulc" ∷ (codes "nac=" ++ three_digits nac) ∷ (codes "lc=" ++ encode_lower link.0) ∷ [])
  pub confirmed : (nac : ℕ) (head : PacketHead) (slots : List Slot)
      → text_of (record { nac = nac; body = Pdu (Confirmed (record { head = head; slots = slots })) })
      ≡ spaced (codes "confirmed" ∷ (codes "nac=" ++ three_digits nac) ∷ (codes "head=" ++ encode_lower head.0)
      ∷ (codes "blocks=" ++ list_text block_words slots) ∷ [])
  pub response : (nac : ℕ) (head : PacketHead) (octets : List ℕ) → format_of head ≡ 3
      → text_of (record { nac = nac; body = Pdu (Plain (record { head = head; octets = octets })) })
      ≡ spaced (codes "response" ∷ (codes "nac=" ++ three_digits nac) ∷ (codes "head=" ++ encode_lower head.0) ∷ (codes "octets=" ++ octets_text octets) ∷ [])
  pub plain : (nac : ℕ) (head : PacketHead) (octets : List ℕ) → format_of head ≡ 21
      → text_of (record { nac = nac; body = Pdu (Plain (record { head = head; octets = octets })) })
      ≡ spaced (codes "plain" ∷ (codes "nac=" ++ three_digits nac) ∷ (codes "head=" ++ encode_lower head.0) ∷ (codes "octets=" ++ octets_text octets) ∷ [])
