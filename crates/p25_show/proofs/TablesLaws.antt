-- Each row of the tables is as the definitions state: the layouts by their indices, and then each case of the decodings.
use Rattle.std.proofs.Common.{◌≡◌, ℕ, ◌*◌, ◌-◌, ◌<◌, ◌⊎◌, inl, inr, Bool, true, false, cond, eqb, ◌||◌, List, [], ◌∷◌, ◌++◌, slice_index, take, drop, Option, Some, None, option_map, Ok, Err, refl, ap, ap₂, ◌∙◌, arith}
use Rattle.std.proofs.lemmas.Bool.{cases_Bool}
use Rattle.std.specs.{Cmp.{unsigned_Decides}}
use Rattle.hex.specs.Hex.{encode_lower}
use Rattle.p25_bits.specs.Bits.{part}
use Rattle.p25_trellis.specs.Nearest.{half_octets, three_quarter_octets}
use Rattle.p25_bits.specs.Numbers.{each_below, octets_number}
use Rattle.p25_gf64.specs.declared.symbol.Sym.{Sym}
use Rattle.p25_hamming.specs.Hamming10Laws.{hamming10_reading_of}
use Rattle.p25_golay.specs.{Golay18Laws.{golay18_reading_of}, Golay24Laws.{golay24_reading_of}}
use Rattle.p25_reed_solomon.specs.RsReadings.{rs_erased_reading_of}
use Rattle.p25_crc.specs.Values.{crc32_of}
use Rattle.p25_status.specs.{declared.fields.Field.{Field}, declared.fields.Field.TheVariants.{HeaderWord, LinkControl, EncryptionSync, PacketCrc, Format}}
use Rattle.p25_link.specs.{Symbols.{symbol_bits}, Words.{header_of_bits, header_of_symbols, link_of_bits, link_of_symbols, sync_of_bits, sync_of_symbols}}
use Rattle.p25_coded_fields.specs.Layouts.{field_layout, field_reading_of, places_from}
use Rattle.p25_voice_units.specs.{Layouts.{hdu_rows, ldu_rows, tdulc_rows}, FieldLayouts.{word_places}, Lengths.{voice_length_of}}
use Rattle.p25_voice_units.specs.Readings.{failing, frame_in, frame_places, header_from, header_in, ldu1_in, ldu2_in, ldu_from, link_in, low_in, low_places, missing, sync_in, tdulc_from, voice_in, voice_reading_of}
use Rattle.p25_voice_units.specs.{Fixes.{link_looked, voice_looked, wide}, declared.voice.VoiceFrame.{VoiceFrame}}
use Rattle.p25_voice_units.specs.declared.unit.VoiceUnit.TheVariants.{Header, Link1, Link2, End, EndLink}
use Rattle.p25_packet_blocks.specs.{Heads.{head_blocks, head_format}, Reading.{confirmed_by_parts, head_from, head_reading_of, octets_read, packet_from, packet_of_head, packet_reading_of, plain_by_parts, plain_from, slot_from, slots_read, unconfirmed_from}}
use Rattle.p25_packet_blocks.specs.{declared.head.PacketHead.{PacketHead}, declared.packet.Packet.TheVariants.{Confirmed, Plain}}
use Rattle.p25_units.specs.{Fixes.{packet_looked}, declared.unit.Body.TheVariants.{Packet as Pdu}}
use Rattle.p25_line.specs.{Octets.{octets_text}, Values.{three_digits}}
use Rattle.p25_text.specs.{Grammar.{keyed, text_of}, Names.{keys_of, kind_word}, Voices.{frame_octets}, declared.names.UnitKind.TheVariants.{Plain as PlainKind, Response}}
use Rattle.p25_show.specs.Tables.{hdu_row, ldu_places, ldu1_row, ldu2_row, tdulc_row, word_of, link_of, sync_of, field_bits_of, low_at, frames_of, one_field, three_fields, VoiceRows, format_of, blocks_of, block_at, confirmed_row, header_row, octets_of_blocks, before_check, PacketRows, ExaminedRows, LineRows, spaced}

-- the positions of the inner codewords, of the codewords of low speed data and of the voice frames
hdu-places : word_places 18 hdu_rows ≡ places_from 112 18 36
unfolding word_places places_from
hdu-places = refl

ldu-places : word_places 10 ldu_rows ≡ ldu_places
unfolding word_places places_from
ldu-places = refl

tdulc-places : word_places 24 tdulc_rows ≡ places_from 112 24 12
unfolding word_places places_from
tdulc-places = refl

low-places : low_places ldu_rows ≡ 1504 ∷ 1520 ∷ []
unfolding low_places
low-places = refl

voice-in : (bare : List Bool) → voice_in bare ≡ frames_of bare
unfolding voice_in frame_places frame_in
voice-in bare = refl

low-in : (bare : List Bool) → (low_in 0 bare ≡ low_at 1504 bare) × (low_in 1 bare ≡ low_at 1520 bare)
unfolding low_in
low-in bare = (ap (λ places. low_at (slice_index places 0) bare) low-places, ap (λ places. low_at (slice_index places 1) bare) low-places)

-- a data unit by its field
header-is : (read : Option (List Sym)) → header_from (option_map header_of_symbols read) ≡ one_field HeaderWord (λ bits. Header (word_of bits)) (option_map symbol_bits read)
unfolding header_from header_of_symbols header_of_bits
header-is (Some symbols) = refl
header-is None = refl

tdulc-is : (read : Option (List Sym)) → tdulc_from (option_map link_of_symbols read) ≡ one_field LinkControl (λ bits. EndLink (link_of bits)) (option_map symbol_bits read)
unfolding tdulc_from link_of_symbols link_of_bits
tdulc-is (Some symbols) = refl
tdulc-is None = refl

ldu1-is : (frames : List VoiceFrame) (read : Option (List Sym)) (first second : Option ℕ)
    → ldu_from LinkControl (λ link low. Link1 link low frames) (option_map link_of_symbols read) first second
    ≡ three_fields LinkControl (λ bits low. Link1 (link_of bits) low frames) (option_map symbol_bits read) first second
unfolding ldu_from failing missing link_of_symbols link_of_bits
ldu1-is frames (Some symbols) (Some a) (Some b) = refl
ldu1-is frames (Some symbols) (Some a) None = refl
ldu1-is frames (Some symbols) None (Some b) = refl
ldu1-is frames (Some symbols) None None = refl
ldu1-is frames None (Some a) (Some b) = refl
ldu1-is frames None (Some a) None = refl
ldu1-is frames None None (Some b) = refl
ldu1-is frames None None None = refl

ldu2-is : (frames : List VoiceFrame) (read : Option (List Sym)) (first second : Option ℕ)
    → ldu_from EncryptionSync (λ sync low. Link2 sync low frames) (option_map sync_of_symbols read) first second
    ≡ three_fields EncryptionSync (λ bits low. Link2 (sync_of bits) low frames) (option_map symbol_bits read) first second
unfolding ldu_from failing missing sync_of_symbols sync_of_bits
ldu2-is frames (Some symbols) (Some a) (Some b) = refl
ldu2-is frames (Some symbols) (Some a) None = refl
ldu2-is frames (Some symbols) None (Some b) = refl
ldu2-is frames (Some symbols) None None = refl
ldu2-is frames None (Some a) (Some b) = refl
ldu2-is frames None (Some a) None = refl
ldu2-is frames None None (Some b) = refl
ldu2-is frames None None None = refl

voice-bits : (voice_length_of 0 ≡ Some 770) × (voice_length_of 5 ≡ Some 1680) × (voice_length_of 10 ≡ Some 1680) × (voice_length_of 3 ≡ Some 140) × (voice_length_of 15 ≡ Some 420)
unfolding voice_length_of
voice-bits = (refl, refl, refl, refl, refl)

hdu-row : (bare : List Bool) → voice_reading_of 0 bare ≡ one_field HeaderWord (λ bits. Header (word_of bits)) (field_bits_of hdu_row bare)
unfolding voice_reading_of header_in
hdu-row bare =
    ap (λ places. header_from (option_map header_of_symbols (field_reading_of (field_layout places 18 1 golay18_reading_of (rs_erased_reading_of 36 20) 20) bare))) hdu-places
    ∙ header-is (field_reading_of hdu_row bare)

tdulc-row : (bare : List Bool) → voice_reading_of 15 bare ≡ one_field LinkControl (λ bits. EndLink (link_of bits)) (field_bits_of tdulc_row bare)
unfolding voice_reading_of link_in
tdulc-row bare =
    ap (λ places. tdulc_from (option_map link_of_symbols (field_reading_of (field_layout places 24 2 golay24_reading_of (rs_erased_reading_of 24 12) 12) bare))) tdulc-places
    ∙ tdulc-is (field_reading_of tdulc_row bare)

tdu-row : (bare : List Bool) → voice_reading_of 3 bare ≡ Ok End
unfolding voice_reading_of
tdu-row bare = refl

ldu1-row : (bare : List Bool) → voice_reading_of 5 bare
    ≡ three_fields LinkControl (λ bits low. Link1 (link_of bits) low (frames_of bare)) (field_bits_of ldu1_row bare) (low_at 1504 bare) (low_at 1520 bare)
unfolding voice_reading_of ldu1_in link_in
ldu1-row bare =
    ap (λ places. ldu_from LinkControl (λ link low. Link1 link low (voice_in bare))
    (option_map link_of_symbols (field_reading_of (field_layout places 10 1 hamming10_reading_of (rs_erased_reading_of 24 12) 12) bare)) (low_in 0 bare) (low_in 1 bare)) ldu-places
    ∙ ap (λ frames. ldu_from LinkControl (λ link low. Link1 link low frames) (option_map link_of_symbols (field_reading_of ldu1_row bare)) (low_in 0 bare) (low_in 1 bare)) (voice-in bare)
    ∙ ldu1-is (frames_of bare) (field_reading_of ldu1_row bare) (low_in 0 bare) (low_in 1 bare)
    ∙ ap (λ first. three_fields LinkControl (λ bits low. Link1 (link_of bits) low (frames_of bare)) (field_bits_of ldu1_row bare) first (low_in 1 bare)) (low-in bare).0
    ∙ ap (λ second. three_fields LinkControl (λ bits low. Link1 (link_of bits) low (frames_of bare)) (field_bits_of ldu1_row bare) (low_at 1504 bare) second) (low-in bare).1

ldu2-row : (bare : List Bool) → voice_reading_of 10 bare
    ≡ three_fields EncryptionSync (λ bits low. Link2 (sync_of bits) low (frames_of bare)) (field_bits_of ldu2_row bare) (low_at 1504 bare) (low_at 1520 bare)
unfolding voice_reading_of ldu2_in sync_in
ldu2-row bare =
    ap (λ places. ldu_from EncryptionSync (λ sync low. Link2 sync low (voice_in bare))
    (option_map sync_of_symbols (field_reading_of (field_layout places 10 1 hamming10_reading_of (rs_erased_reading_of 24 16) 16) bare)) (low_in 0 bare) (low_in 1 bare)) ldu-places
    ∙ ap (λ frames. ldu_from EncryptionSync (λ sync low. Link2 sync low frames) (option_map sync_of_symbols (field_reading_of ldu2_row bare)) (low_in 0 bare) (low_in 1 bare)) (voice-in bare)
    ∙ ldu2-is (frames_of bare) (field_reading_of ldu2_row bare) (low_in 0 bare) (low_in 1 bare)
    ∙ ap (λ first. three_fields EncryptionSync (λ bits low. Link2 (sync_of bits) low (frames_of bare)) (field_bits_of ldu2_row bare) first (low_in 1 bare)) (low-in bare).0
    ∙ ap (λ second. three_fields EncryptionSync (λ bits low. Link2 (sync_of bits) low (frames_of bare)) (field_bits_of ldu2_row bare) (low_at 1504 bare) second) (low-in bare).1

pub voice-rows : VoiceRows
voice-rows = record { bits = voice-bits; hdu = hdu-row; ldu1 = ldu1-row; ldu2 = ldu2-row; tdu = tdu-row; tdulc = tdulc-row }

-- a test of two numbers that are not the same
other : (m n : ℕ) → (m ≡ n → ⊥) → eqb m n ≡ false
other m n differ = elim (cases_Bool (eqb m n)) [
  | inl same ↦ absurd (differ ((unsigned_Decides m n).0 same))
  | inr not_same ↦ not_same
]

-- a packet by its format
header-row : (bare : List Bool) → head_reading_of bare ≡ header_row (half_octets (part 112 196 bare))
unfolding head_reading_of head_from
header-row bare = refl

by-head : (bare : List Bool) (head : PacketHead) → head_reading_of bare ≡ Ok head → packet_reading_of bare ≡ packet_of_head head bare
unfolding packet_reading_of packet_from
by-head bare head read = ap (λ found. packet_from found bare) read

no-header : (bare : List Bool) (field : Field) → head_reading_of bare ≡ Err field → packet_reading_of bare ≡ Err field
unfolding packet_reading_of packet_from
no-header bare field read = ap (λ found. packet_from found bare) read

confirmed-row : (bare : List Bool) (head : PacketHead) → head_reading_of bare ≡ Ok head → format_of head ≡ 22
    → packet_reading_of bare ≡ Ok (Confirmed (record { head = head; slots = each_below (blocks_of head) (λ j. confirmed_row (three_quarter_octets (block_at j bare))) }))
unfolding packet_of_head head_format head_blocks slots_read slot_from
confirmed-row bare head read format =
    by-head bare head read
    ∙ ap (λ n. cond (eqb n 22) (Ok (confirmed_by_parts head (slots_read (head_blocks head) bare))) (unconfirmed_from head bare)) format

by-format : (bare : List Bool) (head : PacketHead) → (format_of head ≡ 21) ⊎ (format_of head ≡ 3)
    → packet_of_head head bare ≡ plain_from head (octets_of_blocks head bare)
unfolding packet_of_head head_format head_blocks octets_read
by-format bare head (inl is) =
    ap (λ n. cond (eqb n 22) (Ok (confirmed_by_parts head (slots_read (head_blocks head) bare)))
    (cond (eqb n 21 || eqb n 3) (plain_from head (octets_read (head_blocks head) bare)) (Err Format))) is
by-format bare head (inr is) =
    ap (λ n. cond (eqb n 22) (Ok (confirmed_by_parts head (slots_read (head_blocks head) bare)))
    (cond (eqb n 21 || eqb n 3) (plain_from head (octets_read (head_blocks head) bare)) (Err Format))) is

-- an unconfirmed packet with blocks, by whether its check agrees
by-check : (head : PacketHead) (octets : List ℕ) (agrees : Bool) → 0 < blocks_of head
    → eqb (octets_number (drop (before_check head) octets)) (crc32_of (take (before_check head) octets)) ≡ agrees
    → plain_from head octets ≡ cond agrees (Ok (plain_by_parts head (take (before_check head) octets))) (Err PacketCrc)
unfolding plain_from head_blocks
by-check head octets agrees some is =
    let none : eqb (blocks_of head) 0 ≡ false = other (blocks_of head) 0 (λ e. omega arith) in
    ap (λ b. cond (b || eqb (octets_number (drop (before_check head) octets)) (crc32_of (take (before_check head) octets)))
    (Ok (plain_by_parts head (take (before_check head) octets))) (Err PacketCrc)) none
    ∙ ap (λ b. cond b (Ok (plain_by_parts head (take (before_check head) octets))) (Err PacketCrc)) is

plain-row : (bare : List Bool) (head : PacketHead) → head_reading_of bare ≡ Ok head → (format_of head ≡ 21) ⊎ (format_of head ≡ 3) → 0 < blocks_of head
    → octets_number (drop (before_check head) (octets_of_blocks head bare)) ≡ crc32_of (take (before_check head) (octets_of_blocks head bare))
    → packet_reading_of bare ≡ Ok (Plain (record { head = head; octets = take (before_check head) (octets_of_blocks head bare) }))
plain-row bare head read format some same =
    by-head bare head read ∙ by-format bare head format ∙ by-check head (octets_of_blocks head bare) true some ((unsigned_Decides _ _).1 same)

plain-fails : (bare : List Bool) (head : PacketHead) → head_reading_of bare ≡ Ok head → (format_of head ≡ 21) ⊎ (format_of head ≡ 3) → 0 < blocks_of head
    → (octets_number (drop (before_check head) (octets_of_blocks head bare)) ≡ crc32_of (take (before_check head) (octets_of_blocks head bare)) → ⊥)
    → packet_reading_of bare ≡ Err PacketCrc
plain-fails bare head read format some differ =
    by-head bare head read ∙ by-format bare head format ∙ by-check head (octets_of_blocks head bare) false some (other _ _ differ)

without-blocks : (head : PacketHead) (octets : List ℕ) → blocks_of head ≡ 0 → plain_from head octets ≡ Ok (plain_by_parts head [])
unfolding plain_from head_blocks
without-blocks head octets none =
    ap (λ n. cond (eqb n 0 || eqb (octets_number (drop (12 * n - 4) octets)) (crc32_of (take (12 * n - 4) octets)))
    (Ok (plain_by_parts head (take (12 * n - 4) octets))) (Err PacketCrc)) none

no-blocks : (bare : List Bool) (head : PacketHead) → head_reading_of bare ≡ Ok head → (format_of head ≡ 21) ⊎ (format_of head ≡ 3) → blocks_of head ≡ 0
    → packet_reading_of bare ≡ Ok (Plain (record { head = head; octets = [] }))
no-blocks bare head read format none = by-head bare head read ∙ by-format bare head format ∙ without-blocks head (octets_of_blocks head bare) none

others : (bare : List Bool) (head : PacketHead) → head_reading_of bare ≡ Ok head → (format_of head ≡ 22 → ⊥) → (format_of head ≡ 21 → ⊥) → (format_of head ≡ 3 → ⊥)
    → packet_reading_of bare ≡ Err Format
unfolding packet_of_head head_format
others bare head read not_confirmed not_plain not_response =
    by-head bare head read
    ∙ ap (λ b. cond b (Ok (confirmed_by_parts head (slots_read (head_blocks head) bare))) (unconfirmed_from head bare)) (other (format_of head) 22 not_confirmed)
    ∙ ap (λ b. cond (b || eqb (format_of head) 3) (plain_from head (octets_read (head_blocks head) bare)) (Err Format)) (other (format_of head) 21 not_plain)
    ∙ ap (λ b. cond b (plain_from head (octets_read (head_blocks head) bare)) (Err Format)) (other (format_of head) 3 not_response)

pub packet-rows : PacketRows
packet-rows = record {
  header = header-row;
  no_header = no-header;
  confirmed = confirmed-row;
  plain = plain-row;
  plain_fails = plain-fails;
  no_blocks = no-blocks;
  others = others;
}

-- the examined bits
pub examined-rows : ExaminedRows
unfolding voice_looked link_looked packet_looked head_blocks
examined-rows = record {
  hdu = λ nac word. ap (λ places. (0, 111) ∷ wide 18 places) hdu-places;
  ldu1 = λ nac link low voice. links;
  ldu2 = λ nac sync low voice. links;
  tdu = λ nac. refl;
  tdulc = λ nac link. ap (λ places. (0, 111) ∷ wide 24 places) tdulc-places;
  packet = λ nac packet. refl;
}
  where
    links : (0, 111) ∷ wide 10 (word_places 10 ldu_rows) ++ wide 16 (low_places ldu_rows) ≡ (0, 111) ∷ wide 10 ldu_places ++ wide 16 (1504 ∷ 1520 ∷ [])
    links = ap₂ (λ places lows. (0, 111) ∷ wide 10 places ++ wide 16 lows) ldu-places low-places

-- the line of a packet that is not confirmed, by its format
plain-line : (nac : ℕ) (head : PacketHead) (octets : List ℕ) (format : ℕ) → head_format head ≡ format
    → text_of (record { nac = nac; body = Pdu (Plain (record { head = head; octets = octets })) })
    ≡ spaced (kind_word (cond (eqb format 3) Response PlainKind)
    ∷ keyed (keys_of (cond (eqb format 3) Response PlainKind)) (three_digits nac ∷ encode_lower head.0 ∷ octets_text octets ∷ []))
unfolding text_of
plain-line nac head octets format is =
    ap (λ n. spaced (kind_word (cond (eqb n 3) Response PlainKind)
    ∷ keyed (keys_of (cond (eqb n 3) Response PlainKind)) (three_digits nac ∷ encode_lower head.0 ∷ octets_text octets ∷ []))) is

-- the lines
pub line-rows : LineRows
unfolding text_of frame_octets head_format
line-rows = record {
  hdu = λ nac word. refl;
  ldu1 = λ nac link low voice. refl;
  ldu2 = λ nac sync low voice. refl;
  tdu = λ nac. refl;
  tdulc = λ nac link. refl;
  confirmed = λ nac head slots. refl;
  response = λ nac head octets format. plain-line nac head octets 3 format;
  plain = λ nac head octets format. plain-line nac head octets 21 format;
}
