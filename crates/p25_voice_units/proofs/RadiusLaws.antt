-- Voice data units within the correction radius decode to the transmitted ones, and bits are within the correction radius of the data unit to which they decode: each part by the law of its code. Being within it by whole inner words
-- implies the same. A data unit's own bits are within the correction radius, and give its frames.
use Rattle.std.proofs.Common.{◌≡◌, ℕ, zero, suc, ◌+◌, ◌*◌, ◌<◌, ◌≤◌, Bool, List, [], ◌∷◌, length, take, drop, map, slice_index, get_or, Option, Some, option_map, Ok, All, refl, ap, ap₂, sym, ◌∙◌, arith, lit<, length-drop, None, subst}
use Rattle.std.proofs.{Math.Nat.{mod-eq_of_lt}, lemmas.List.{ext_get_or, get_or-map, length-map, length-take-le}}
use Rattle.p25_bits.specs.{Bits.{bits_of, field_of, octet_bits, part}, Numbers.{numbers_from}, Distance.{distance_of}}
use Rattle.p25_bits.proofs.{BitsLaws.{field_of-bits_of, bits_of-field_of}, DistanceLaws.{distance_of-same}, NumbersLaws.{number_bits-octets, numbers_from-take, numbers_from-number_bits}}
use Rattle.p25_bits.proofs.PartLaws.{length-part}
use Rattle.p25_code.specs.{Words.{IsEncoding}, Readings.{IsReadAs}}
use Rattle.p25_code.proofs.ReadingLaws.{read_as_sent}
use Rattle.p25_hamming.specs.{Lsd16.{IsLsd16}, Lsd16Laws.{lsd16_code, lsd16_reading_of}, Hamming10Laws.{hamming10_reading_of}}
use Rattle.p25_link.specs.{Words.{header_of_symbols, header_symbols, link_of_symbols, link_symbols, sync_of_symbols, sync_symbols}, declared.encryption.HeaderWord.{HeaderWord}}
use Rattle.p25_link.specs.declared.link_control.LinkControl.{LinkControl}
use Rattle.p25_link.proofs.WordsLaws.{header_words, link_words, sync_words}
use Rattle.p25_coded_fields.proofs.{WithinLaws.{field_within, near_from_lost, near_itself}, CodesLaws.{near_from_reading, field_information}}
use Rattle.p25_voice_units.specs.{declared.layout.Piece.TheVariants.{Nulls}, declared.unit.VoiceUnit.{VoiceUnit}, declared.unit.VoiceUnit.TheVariants.{Header, Link1, Link2, End, EndLink}}
use Rattle.p25_voice_units.specs.{declared.voice.VoiceFrame.{VoiceFrame}, Layouts.{ldu_rows, hdu_rows, tdulc_rows}, FieldLayouts.{link_layout, word_places, header_layout, sync_layout, tdulc_layout}}
use Rattle.p25_voice_units.specs.{Images.{frame_at, voice_image_of}, Lengths.{voice_duid, voice_length_of}, Places.{HasPiece, IsLaidOut, IsVoiceImage}}
use Rattle.p25_voice_units.specs.Readings.{ldu1_in, ldu2_in, frame_places, low_places, frame_in, voice_in, low_in, header_in, link_in, sync_in, header_from, ldu_from, tdulc_from, voice_reading_of}
use Rattle.p25_voice_units.specs.{Sendable.{IsVoiceFrame, IsSpeech, IsSendableVoice}, WithinRadius.{AreLowWithin, IsVoiceWithin, received_voice, IsVoiceWithinByWords}}
use Rattle.p25_status.specs.{declared.fields.Field.{Field}, declared.fields.Field.TheVariants.{LinkControl as LinkField, EncryptionSync as SyncField}}
use Rattle.p25_voice_units.proofs.{ImagesLaws.{IsVoiceImage-iff}, KindsLaws.{reading-header, reading-end, reading-ldu1, reading-ldu2, reading-tdulc, ldu_whole}}
use Rattle.p25_voice_units.proofs.{LengthsLaws.{one_length, length-header, length-ldu1, length-ldu2, length-tdulc}, ReadLaws.{nine_frames}}
use Rattle.p25_voice_units.proofs.{FieldCodesLaws.{header_codes, link_codes, sync_codes, tdulc_codes, header_there, link_there, tdulc_there}, CodesLaws.{header_code, link_code, sync_code}}
use Rattle.std.specs.Bool.{beq}
use Rattle.p25_gf64.specs.declared.symbol.Sym.{Sym}
use Rattle.p25_golay.specs.{Golay18Laws.{golay18_reading_of}, Golay24Laws.{golay24_reading_of}}
use Rattle.p25_coded_fields.specs.Layouts.{field_reading_of}

-- a low speed data word with at most two bit errors decodes to its octet
low_near : (at octet : ℕ) (sent received : List Bool) → octet < 256
    → IsEncoding IsLsd16 8 (bits_of 8 octet) (part at 16 sent) → at + 16 ≤ length received → distance_of (part at 16 received) (part at 16 sent) ≤ 2
    → option_map (λ w. field_of (take 8 w)) (lsd16_reading_of (part at 16 received)) ≡ Some octet
low_near at octet sent received small word there near =
    let number : List Bool → ℕ = λ w. field_of (take 8 w) in
    ap (option_map number)
    (read_as_sent lsd16_code.is.laws (part at 16 received) (part at 16 sent)
    (lsd16_reading_of (part at 16 received)) (length-part at 16 received there) (lsd16_code.is.reads (part at 16 received)) word.word_of_set near)
    ∙ ap Some (ap field_of word.begins ∙ field_of-bits_of 8 octet ∙ mod-eq_of_lt small)

-- a list of two is its elements
two_of : (xs : List ℕ) → length xs ≡ 2 → slice_index xs 0 ∷ slice_index xs 1 ∷ [] ≡ xs
two_of [] long = absurd (omega arith)
two_of (x ∷ []) long = absurd (omega arith)
two_of (x ∷ y ∷ []) long = refl
two_of (x ∷ y ∷ z ∷ xs) long = absurd (omega arith)

-- a data unit with voice whose word is decoded, and whose low speed data words are near
ldu_within : {X : Type 0} (field : Field) (unit : X → List ℕ → VoiceUnit)
    (answer : Option X) (word : X) (low : List ℕ) (voice : List VoiceFrame) (sent received : List Bool) → answer ≡ Some word → IsSpeech low voice
    → All (λ row. HasPiece low voice sent row.0 row.1) ldu_rows → length received ≡ 1680
    → AreLowWithin sent received → ldu_from field unit answer (low_in 0 received) (low_in 1 received) ≡ Ok (unit word low)
unfolding low_in low_places
ldu_within field unit answer word low voice sent received is keeps pieces long near =
    let there : 1504 + 16 ≤ length received = omega arith in
    let there' : 1520 + 16 ≤ length received = omega arith in
    ldu_whole field unit answer (low_in 0 received) (low_in 1 received) word (slice_index low 0) (slice_index low 1) is
    (low_near 1504 (slice_index low 0) sent received (keeps.small 0 0 (omega (arith, keeps.two))) (pieces 14 (0, Nulls 0) (lit< tt)) there (near 0 0 (lit< tt)))
    (low_near 1520 (slice_index low 1) sent received (keeps.small 1 0 (omega (arith, keeps.two))) (pieces 15 (0, Nulls 0) (lit< tt)) there' (near 1 0 (lit< tt)))
    ∙ ap (λ octets. Ok (unit word octets)) (two_of low keeps.two)

-- a correctable data unit decodes to the transmitted one, with its voice as received
pub voice_within : (nac : ℕ) (unit : VoiceUnit) (sent received : List Bool) → IsSendableVoice unit → IsVoiceImage nac unit sent → length received ≡ length sent → IsVoiceWithin unit sent received
    → voice_reading_of (voice_duid unit) received ≡ Ok (received_voice unit received)
unfolding IsSendableVoice IsVoiceImage IsVoiceWithin header_in link_in sync_in header_from tdulc_from ldu1_in ldu2_in
voice_within nac (Header word) sent received keeps is long near =
    reading-header received
    ∙ ap header_from (ap (option_map header_of_symbols) (field_within header_codes (header_symbols word) sent received is.1 near) ∙ ap Some (header_words.back word keeps))
voice_within nac (Link1 link low voice) sent received keeps is long near =
    reading-ldu1 received
    ∙ ldu_within LinkField (λ link low. Link1 link low (voice_in received)) (link_in link_layout received) link low voice sent received
    (ap (option_map link_of_symbols) (field_within link_codes (link_symbols link) sent received is.1 near.field) ∙ ap Some (link_words.back link keeps.word))
    keeps.speech is.0.pieces (long ∙ one_length 5 length-ldu1 is.0.long) near.low
voice_within nac (Link2 sync low voice) sent received keeps is long near =
    reading-ldu2 received
    ∙ ldu_within SyncField (λ sync low. Link2 sync low (voice_in received)) (sync_in received) sync low voice sent received
    (ap (option_map sync_of_symbols) (field_within sync_codes (sync_symbols sync) sent received is.1 near.field) ∙ ap Some (sync_words.back sync keeps.word))
    keeps.speech is.0.pieces (long ∙ one_length 10 length-ldu2 is.0.long) near.low
voice_within nac End sent received keeps is long near = reading-end received
voice_within nac (EndLink link) sent received keeps is long near =
    reading-tdulc received
    ∙ ap tdulc_from (ap (option_map link_of_symbols) (field_within tdulc_codes (link_symbols link) sent received is.1 near) ∙ ap Some (link_words.back link keeps))

-- bits within the correction radius by whole inner words are within it
pub within_from_words : (nac : ℕ) (unit : VoiceUnit) (sent received : List Bool)
    → IsVoiceImage nac unit sent → length received ≡ length sent → IsVoiceWithinByWords unit sent received → IsVoiceWithin unit sent received
unfolding IsVoiceImage IsVoiceWithin IsVoiceWithinByWords
within_from_words nac (Header word) sent received is long few =
    near_from_lost header_codes (header_symbols word) sent received is.1 (header_there received (long ∙ one_length 0 length-header is.0.long)) (omega arith)
within_from_words nac (Link1 link low voice) sent received is long few = record {
  field = near_from_lost link_codes (link_symbols link) sent received is.1 (link_there received (long ∙ one_length 5 length-ldu1 is.0.long)) (omega (arith, few.field));
  low = few.low;
}
within_from_words nac (Link2 sync low voice) sent received is long few = record {
  field = near_from_lost sync_codes (sync_symbols sync) sent received is.1 (link_there received (long ∙ one_length 10 length-ldu2 is.0.long)) (omega (arith, few.field));
  low = few.low;
}
within_from_words nac End sent received is long few = tt
within_from_words nac (EndLink link) sent received is long few =
    near_from_lost tdulc_codes (link_symbols link) sent received is.1 (tdulc_there received (long ∙ one_length 15 length-tdulc is.0.long)) (omega arith)

-- undamaged bits are within the correction radius
low_itself : (sent : List Bool) → AreLowWithin sent sent
low_itself sent i d inside = let at = get_or (low_places ldu_rows) i d in omega (arith, distance_of-same (part at 16 sent))

pub within_itself : (nac : ℕ) (unit : VoiceUnit) (sent : List Bool) → IsVoiceImage nac unit sent → IsVoiceWithin unit sent sent
unfolding IsVoiceImage IsVoiceWithin
within_itself nac (Header word) sent is = near_itself header_codes (header_symbols word) sent is.1 (header_there sent (one_length 0 length-header is.0.long))
within_itself nac (Link1 link low voice) sent is = record { field = near_itself link_codes (link_symbols link) sent is.1 (link_there sent (one_length 5 length-ldu1 is.0.long)); low = low_itself sent }
within_itself nac (Link2 sync low voice) sent is =
    record { field = near_itself sync_codes (sync_symbols sync) sent is.1 (link_there sent (one_length 10 length-ldu2 is.0.long)); low = low_itself sent }
within_itself nac End sent is = tt
within_itself nac (EndLink link) sent is = near_itself tdulc_codes (link_symbols link) sent is.1 (tdulc_there sent (one_length 15 length-tdulc is.0.long))

-- the voice frame at its position
frame_back : (at : ℕ) (frame : VoiceFrame) (bare : List Bool) → IsVoiceFrame frame → at + 144 ≤ length bare → part at 144 bare ≡ octet_bits frame.0 → frame_in at bare ≡ frame
unfolding frame_in
frame_back at frame bare keeps there is =
    let made : List ℕ → VoiceFrame = λ octets. record { 0 = octets } in
    let inside : 8 * 18 ≤ 144 = omega arith in
    let left : 8 * 18 ≤ length (drop at bare) = omega (arith, length-drop at bare) in
    ap made
    (
    sym (numbers_from-take 8 18 144 (drop at bare) inside left)
    ∙ ap₂ (numbers_from 8) (sym keeps.long) (is ∙ sym (number_bits-octets frame.0))
    ∙ numbers_from-number_bits 8 frame.0 keeps.small
    )

-- which is in a row of its own
frame_row : (low : List ℕ) (voice : List VoiceFrame) (bare : List Bool) → All (λ row. HasPiece low voice bare row.0 row.1) ldu_rows → (i : ℕ) → i < 9
    → (part (slice_index (frame_places ldu_rows) i) 144 bare ≡ octet_bits (frame_at voice i).0) × (slice_index (frame_places ldu_rows) i + 144 ≤ 1680)
unfolding frame_places
frame_row low voice bare pieces zero inside = (pieces 0 (0, Nulls 0) (lit< tt), omega arith)
frame_row low voice bare pieces (suc zero) inside = (pieces 1 (0, Nulls 0) (lit< tt), omega arith)
frame_row low voice bare pieces (suc (suc zero)) inside = (pieces 3 (0, Nulls 0) (lit< tt), omega arith)
frame_row low voice bare pieces (suc (suc (suc zero))) inside = (pieces 5 (0, Nulls 0) (lit< tt), omega arith)
frame_row low voice bare pieces (suc (suc (suc (suc zero)))) inside = (pieces 7 (0, Nulls 0) (lit< tt), omega arith)
frame_row low voice bare pieces (suc (suc (suc (suc (suc zero))))) inside = (pieces 9 (0, Nulls 0) (lit< tt), omega arith)
frame_row low voice bare pieces (suc (suc (suc (suc (suc (suc zero)))))) inside = (pieces 11 (0, Nulls 0) (lit< tt), omega arith)
frame_row low voice bare pieces (suc (suc (suc (suc (suc (suc (suc zero))))))) inside = (pieces 13 (0, Nulls 0) (lit< tt), omega arith)
frame_row low voice bare pieces (suc (suc (suc (suc (suc (suc (suc (suc zero)))))))) inside = (pieces 16 (0, Nulls 0) (lit< tt), omega arith)
frame_row low voice bare pieces (suc (suc (suc (suc (suc (suc (suc (suc (suc i))))))))) inside = absurd (omega arith)

-- so undamaged bits have the frames
voice_back : (nac duid : ℕ) (low : List ℕ) (voice : List VoiceFrame) (bare : List Bool) → IsSpeech low voice → voice_length_of duid ≡ Some 1680
    → IsLaidOut nac duid ldu_rows low voice bare → voice_in bare ≡ voice
unfolding voice_in
voice_back nac duid low voice bare keeps known is = ext_get_or blank (map frame (frame_places ldu_rows)) voice (many ∙ sym keeps.nine) (λ i inside. at i (omega (arith, many)))
  where
    blank : VoiceFrame
    blank = record { 0 = [] }

    frame : ℕ → VoiceFrame
    frame at = frame_in at bare

    many : length (map frame (frame_places ldu_rows)) ≡ 9
    many = length-map (frame_places ldu_rows) frame ∙ nine_frames

    at : (i : ℕ) → i < 9 → get_or (map frame (frame_places ldu_rows)) i blank ≡ get_or voice i blank
    at i inside =
        let row = frame_row low voice bare is.pieces i inside in
        get_or-map frame (frame_places ldu_rows) i 0 blank (omega (arith, nine_frames))
        ∙ frame_back (slice_index (frame_places ldu_rows) i) (frame_at voice i) bare (keeps.frames i blank (omega (arith, keeps.nine))) (omega (arith, row.1, one_length duid known is.long)) row.0

pub received_itself : (nac : ℕ) (unit : VoiceUnit) (sent : List Bool) → IsSendableVoice unit → IsVoiceImage nac unit sent → received_voice unit sent ≡ unit
unfolding IsSendableVoice IsVoiceImage
received_itself nac (Header word) sent keeps is = refl
received_itself nac (Link1 link low voice) sent keeps is = ap (Link1 link low) (voice_back nac 5 low voice sent keeps.speech length-ldu1 is.0)
received_itself nac (Link2 sync low voice) sent keeps is = ap (Link2 sync low) (voice_back nac 10 low voice sent keeps.speech length-ldu2 is.0)
received_itself nac End sent keeps is = refl
received_itself nac (EndLink link) sent keeps is = refl

-- the image of a data unit has its layout by positions
pub IsVoiceImage-same : (nac : ℕ) (unit : VoiceUnit) → IsSendableVoice unit → IsVoiceImage nac unit (voice_image_of nac unit)
IsVoiceImage-same nac unit keeps = (IsVoiceImage-iff nac unit (voice_image_of nac unit) keeps).1 refl

-- and decodes to the data unit
pub voice_reading_of-image : (nac : ℕ) (unit : VoiceUnit) → IsSendableVoice unit → voice_reading_of (voice_duid unit) (voice_image_of nac unit) ≡ Ok unit
voice_reading_of-image nac unit keeps =
    let image = voice_image_of nac unit in
    let form = IsVoiceImage-same nac unit keeps in
    voice_within nac unit image image keeps form refl (within_itself nac unit image form) ∙ ap Ok (received_itself nac unit image keeps form)

-- The decoding of a voice data unit: each decoded part is the codeword near to the received bits, and the data unit's own bits have the only codeword with this information.

-- a decoded part is that of the decoded symbols
symbols_read : {W : Type 0} (of_symbols : List Sym → W) (symbols_of : W → List Sym) (n : ℕ) (reading : Option (List Sym)) (word : W)
    → ((symbols : List Sym) → length symbols ≡ n → symbols_of (of_symbols symbols) ≡ symbols)
    → ((symbols : List Sym) → reading ≡ Some symbols → length symbols ≡ n) → option_map of_symbols reading ≡ Some word → reading ≡ Some (symbols_of word)
symbols_read of_symbols symbols_of n None word back long is = absurd (cc)
symbols_read of_symbols symbols_of n (Some symbols) word back long is =
    let same : of_symbols symbols ≡ word = cc in
    ap Some (sym (back symbols (long symbols refl)) ∙ ap symbols_of same)

-- the decoding of a data unit, part by part
header_parts : (answer : Option HeaderWord) (word : HeaderWord) → header_from answer ≡ Ok (Header word) → answer ≡ Some word
unfolding header_from
header_parts None word is = absurd (cc)
header_parts (Some read) word is = let same : read ≡ word = cc in ap Some same

tdulc_parts : (answer : Option LinkControl) (link : LinkControl) → tdulc_from answer ≡ Ok (EndLink link) → answer ≡ Some link
unfolding tdulc_from
tdulc_parts None link is = absurd (cc)
tdulc_parts (Some read) link is = let same : read ≡ link = cc in ap Some same

-- the word of a coded field, and the octets of low speed data
record AreRead {W : Type 0} (answer : Option W) (first second : Option ℕ) (word : W) (low : List ℕ) : Type 0 where
  word_read : answer ≡ Some word
  first_read : first ≡ Some (slice_index low 0)
  second_read : second ≡ Some (slice_index low 1)

-- a data unit that is known by its word and its octets was made of them
ldu_read_parts : {X : Type 0} (field : Field) (unit : X → List ℕ → VoiceUnit) (answer : Option X) (first second : Option ℕ) (word : X) (low : List ℕ) (made : VoiceUnit)
    → ((read : X) (octets : List ℕ) → unit read octets ≡ made → (read ≡ word) × (octets ≡ low))
    → ldu_from field unit answer first second ≡ Ok made → AreRead answer first second word low
unfolding ldu_from
ldu_read_parts field unit None first second word low made known is = absurd (cc)
ldu_read_parts field unit (Some read) None second word low made known is = absurd (cc)
ldu_read_parts field unit (Some read) (Some a) None word low made known is = absurd (cc)
ldu_read_parts field unit (Some read) (Some a) (Some b) word low made known is =
    let same : unit read (a ∷ b ∷ []) ≡ made = cc in
    let parts = known read (a ∷ b ∷ []) same in
    record { word_read = ap Some parts.0; first_read = ap (λ xs. Some (slice_index xs 0)) parts.1; second_read = ap (λ xs. Some (slice_index xs 1)) parts.1 }

-- a decoded low speed data word lies within 2 bits of the codeword that carries the octet
low_whole : (at octet : ℕ) (sent received : List Bool) (answer : Option (List Bool))
    → IsReadAs beq IsLsd16 2 (part at 16 received) answer → option_map (λ (w : List Bool). field_of (take 8 w)) answer ≡ Some octet
    → IsEncoding IsLsd16 8 (bits_of 8 octet) (part at 16 sent) → distance_of (part at 16 received) (part at 16 sent) ≤ 2
unfolding IsReadAs
low_whole at octet sent received None is read word = absurd (cc)
low_whole at octet sent received (Some found) is read word =
    let number : field_of (take 8 found) ≡ octet = cc in
    let long : 8 ≤ length found = omega (arith, lsd16_code.is.laws.long found is.word_of_set) in
    let begins : take 8 found ≡ bits_of 8 octet
    = sym (bits_of-field_of (take 8 found)) ∙ ap (λ n. bits_of n (field_of (take 8 found))) (length-take-le 8 found long) ∙ ap (bits_of 8) number in
    let same = lsd16_code.is.laws.one_word found (part at 16 sent) is.word_of_set word.word_of_set (begins ∙ sym word.begins) in
    subst (λ (w : List Bool). distance_of (part at 16 received) w ≤ 2) same is.within

low_words_whole : (low : List ℕ) (voice : List VoiceFrame) (sent received : List Bool) → All (λ row. HasPiece low voice sent row.0 row.1) ldu_rows → low_in 0 received ≡ Some (slice_index low 0)
    → low_in 1 received ≡ Some (slice_index low 1)
    → AreLowWithin sent received
unfolding low_in low_places
low_words_whole low voice sent received pieces first second zero d inside =
    low_whole 1504 (slice_index low 0) sent received (lsd16_reading_of (part 1504 16 received)) (lsd16_code.is.reads (part 1504 16 received)) first (pieces 14 (0, Nulls 0) (lit< tt))
low_words_whole low voice sent received pieces first second (suc zero) d inside =
    low_whole 1520 (slice_index low 1) sent received (lsd16_reading_of (part 1520 16 received)) (lsd16_code.is.reads (part 1520 16 received)) second (pieces 15 (0, Nulls 0) (lit< tt))
low_words_whole low voice sent received pieces first second (suc (suc i)) d inside = absurd (omega arith)

-- received bits are within the correction radius of the data unit to which they decode
pub voice_whole : (nac : ℕ) (unit : VoiceUnit) (sent received : List Bool) → IsVoiceImage nac unit sent → voice_reading_of (voice_duid unit) received ≡ Ok unit → IsVoiceWithin unit sent received
unfolding IsVoiceImage IsVoiceWithin header_in link_in sync_in ldu1_in ldu2_in
voice_whole nac (Header word) sent received is read =
    let part_read = header_parts (header_in received) word (sym (reading-header received) ∙ read) in
    near_from_reading (word_places 18 hdu_rows) 18 1 36 20 golay18_reading_of header_code (header_symbols word) sent received is.1
    (symbols_read header_of_symbols header_symbols 20 (field_reading_of header_layout received) word header_words.symbols_back
    (field_information (word_places 18 hdu_rows) 18 1 36 20 golay18_reading_of header_code received) part_read)
voice_whole nac (Link1 link low voice) sent received is read =
    let parts = ldu_read_parts LinkField (λ word octets. Link1 word octets (voice_in received))
    (link_in link_layout received) (low_in 0 received) (low_in 1 received) link low (Link1 link low voice) (λ word octets same. (cc same, cc same))
    (sym (reading-ldu1 received) ∙ read) in
    record {
      field = near_from_reading (word_places 10 ldu_rows) 10 1 24 12 hamming10_reading_of link_code (link_symbols link) sent received is.1
          (symbols_read link_of_symbols link_symbols 12 (field_reading_of link_layout received) link link_words.symbols_back
          (field_information (word_places 10 ldu_rows) 10 1 24 12 hamming10_reading_of link_code received) parts.word_read);
      low = low_words_whole low voice sent received is.0.pieces parts.first_read parts.second_read;
    }
voice_whole nac (Link2 sync low voice) sent received is read =
    let parts = ldu_read_parts SyncField (λ word octets. Link2 word octets (voice_in received))
    (sync_in received) (low_in 0 received) (low_in 1 received) sync low (Link2 sync low voice) (λ word octets same. (cc same, cc same))
    (sym (reading-ldu2 received) ∙ read) in
    record {
      field = near_from_reading (word_places 10 ldu_rows) 10 1 24 16 hamming10_reading_of sync_code (sync_symbols sync) sent received is.1
          (symbols_read sync_of_symbols sync_symbols 16 (field_reading_of sync_layout received) sync sync_words.symbols_back
          (field_information (word_places 10 ldu_rows) 10 1 24 16 hamming10_reading_of sync_code received) parts.word_read);
      low = low_words_whole low voice sent received is.0.pieces parts.first_read parts.second_read;
    }
voice_whole nac End sent received is read = tt
voice_whole nac (EndLink link) sent received is read =
    let part_read = tdulc_parts (link_in tdulc_layout received) link (sym (reading-tdulc received) ∙ read) in
    near_from_reading (word_places 24 tdulc_rows) 24 2 24 12 golay24_reading_of link_code (link_symbols link) sent received is.1
    (symbols_read link_of_symbols link_symbols 12 (field_reading_of tdulc_layout received) link link_words.symbols_back
    (field_information (word_places 24 tdulc_rows) 24 2 24 12 golay24_reading_of link_code received) part_read)
