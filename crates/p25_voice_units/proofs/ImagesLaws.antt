-- The images of voice data units, by their types. The contents of each suit its rows, as tests of the layouts show, so a data unit's bits are those
-- that its layout has and carry its field.
use Rattle.std.proofs.{Common.{◌≡◌, ◌↔◌, ℕ, Bool, List, [], length, Some, refl, ap, ap₂, sym, ◌∙◌, arith, lit≤}, lemmas.List.Elements.{All-nil}}
use Rattle.p25_hamming.specs.{Hamming10.{IsHamming10}, Hamming10Laws.{hamming10_code, hamming10_reading_of}}
use Rattle.p25_golay.specs.{Golay18.{IsGolay18}, Golay18Laws.{golay18_code, golay18_reading_of}, Golay24.{IsGolay24}, Golay24Laws.{golay24_code, golay24_reading_of}}
use Rattle.p25_gf64.specs.declared.symbol.Sym.{Sym}
use Rattle.p25_reed_solomon.specs.{Words.{IsCode}, Encoding.{rs_word}}
use Rattle.p25_reed_solomon.proofs.EncodingLaws.{IsEncoding-rs_word}
use Rattle.p25_link.specs.{declared.link_control.LinkControl.{LinkControl}, declared.encryption.HeaderWord.{HeaderWord}, Words.{header_symbols, link_symbols, sync_symbols}}
use Rattle.p25_link.proofs.WordsLaws.{header_words, link_words, sync_words}
use Rattle.p25_coded_fields.specs.Layouts.{places_from}
use Rattle.p25_voice_units.specs.{declared.voice.VoiceFrame.{VoiceFrame}, declared.unit.VoiceUnit.{VoiceUnit}, declared.unit.VoiceUnit.TheVariants.{Header, Link1, Link2, End, EndLink}}
use Rattle.p25_voice_units.specs.{Layouts.{hdu_rows, ldu_rows, tdu_rows, tdulc_rows}, FieldLayouts.{word_places}, Lengths.{voice_duid, voice_length_of}}
use Rattle.p25_golay.specs.Golay18.{golay18_word}
use Rattle.p25_golay.specs.Golay24.{golay24_word}
use Rattle.p25_hamming.specs.Hamming10.{hamming10_word}
use Rattle.p25_voice_units.specs.{Sendable.{IsVoiceFrame, IsSpeech, IsSendableVoice}, Images.{contents, voice_body, voice_image_of}, Places.{IsVoiceImage}}
use Rattle.p25_voice_units.proofs.CodesLaws.{header_code, link_code, sync_code}
use Rattle.p25_voice_units.proofs.{LengthsLaws.{length-header, length-ldu1, length-ldu2, length-end, length-tdulc}, RowsLaws.{IsCarried, rows_supplied}}
use Rattle.p25_voice_units.proofs.FormLaws.{AreRows, length-unit, laid_out, laid_out-only, unit_form}

-- the conditions on the codes of the inner words
pub golay18_carried : (symbols : List Sym) → IsCarried IsGolay18 18 6 (contents golay18_word 1 symbols [] [])
golay18_carried symbols =
    record { encodes = golay18_code.is.encodes; long = golay18_code.is.laws.long; one_word = golay18_code.is.laws.one_word; sixes = refl; begins = lit≤ tt; frames = All-nil IsVoiceFrame }

pub golay24_carried : (symbols : List Sym) → IsCarried IsGolay24 24 12 (contents golay24_word 2 symbols [] [])
golay24_carried symbols =
    record { encodes = golay24_code.is.encodes; long = golay24_code.is.laws.long; one_word = golay24_code.is.laws.one_word; sixes = refl; begins = lit≤ tt; frames = All-nil IsVoiceFrame }

pub hamming10_carried : (symbols : List Sym) (low : List ℕ) (voice : List VoiceFrame) → IsSpeech low voice → IsCarried IsHamming10 10 6 (contents hamming10_word 1 symbols low voice)
hamming10_carried symbols low voice speech =
    record { encodes = hamming10_code.is.encodes; long = hamming10_code.is.laws.long; one_word = hamming10_code.is.laws.one_word; sixes = refl; begins = lit≤ tt; frames = speech.frames }

-- the outer words
length-outer : (n k : ℕ) (info : List Sym) → IsCode n k → length info ≡ k → length (rs_word n k info) ≡ n
length-outer n k info code long = (IsEncoding-rs_word n k info code long).word_of_set.long

-- the rows of the layouts suit the contents: computed for each table
pub header_suits : (word : HeaderWord) → AreRows 18 770 (contents golay18_word 1 (rs_word 36 20 (header_symbols word)) [] []) hdu_rows
unfolding word_places places_from
header_suits word =
    let long = length-outer 36 20 (header_symbols word) header_code (header_words.count_of word) in
    record { stand = refl; fit = ap (λ n. rows_supplied 1 n 0 0 hdu_rows) long; counted = refl; fill = refl; cover = sym long; inside = refl }

pub ldu_suits : (k : ℕ) (info : List Sym) (low : List ℕ) (voice : List VoiceFrame)
    → IsCode 24 k → length info ≡ k → IsSpeech low voice → AreRows 10 1680 (contents hamming10_word 1 (rs_word 24 k info) low voice) ldu_rows
unfolding word_places places_from
ldu_suits k info low voice code is speech =
    let long = length-outer 24 k info code is in
    record {
      stand = refl;
      fit = ap (λ n. rows_supplied 1 n (length low) (length voice) ldu_rows) long ∙ ap₂ (λ m n. rows_supplied 1 24 m n ldu_rows) speech.two speech.nine;
      counted = refl;
      fill = refl;
      cover = sym long;
      inside = refl;
    }

end_suits : AreRows 18 140 (contents golay18_word 1 [] [] []) tdu_rows
unfolding word_places places_from
end_suits = record { stand = refl; fit = refl; counted = refl; fill = refl; cover = refl; inside = refl }

pub tdulc_suits : (link : LinkControl) → AreRows 24 420 (contents golay24_word 2 (rs_word 24 12 (link_symbols link)) [] []) tdulc_rows
unfolding word_places places_from
tdulc_suits link =
    let long = length-outer 24 12 (link_symbols link) link_code (link_words.count_of link) in
    record { stand = refl; fit = ap (λ n. rows_supplied 2 n 0 0 tdulc_rows) long; counted = refl; fill = refl; cover = sym long; inside = refl }

-- a terminator has no inner words
no_words : (i : ℕ) → length (word_places 18 tdu_rows) ≡ 0
unfolding word_places places_from
no_words i = refl

-- the bits of a data unit are as many as its type has
pub length-voice_image_of : (nac : ℕ) (unit : VoiceUnit) → IsSendableVoice unit → voice_length_of (voice_duid unit) ≡ Some (length (voice_image_of nac unit))
unfolding IsSendableVoice voice_image_of voice_body
length-voice_image_of nac (Header word) keeps = length-header ∙ ap Some (sym (length-unit (golay18_carried _) (header_suits word) nac 0))
length-voice_image_of nac (Link1 link low voice) keeps =
    length-ldu1 ∙ ap Some (sym (length-unit (hamming10_carried _ low voice keeps.speech) (ldu_suits 12 _ low voice link_code (link_words.count_of link) keeps.speech) nac 5))
length-voice_image_of nac (Link2 sync low voice) keeps =
    length-ldu2 ∙ ap Some (sym (length-unit (hamming10_carried _ low voice keeps.speech) (ldu_suits 16 _ low voice sync_code (sync_words.count_of sync) keeps.speech) nac 10))
length-voice_image_of nac End keeps = length-end ∙ ap Some (sym (length-unit (golay18_carried []) end_suits nac 3))
length-voice_image_of nac (EndLink link) keeps = length-tdulc ∙ ap Some (sym (length-unit (golay24_carried _) (tdulc_suits link) nac 15))

-- the bits of a data unit are those with the layout of its type
pub IsVoiceImage-iff : (nac : ℕ) (unit : VoiceUnit) (bare : List Bool) → IsSendableVoice unit → IsVoiceImage nac unit bare ↔ (bare ≡ voice_image_of nac unit)
unfolding IsSendableVoice IsVoiceImage voice_image_of voice_body
IsVoiceImage-iff nac (Header word) bare keeps =
    unit_form (golay18_carried _) (header_suits word) 36 20 header_code (header_symbols word) (header_words.count_of word) refl golay18_reading_of nac 0 bare length-header
IsVoiceImage-iff nac (Link1 link low voice) bare keeps =
    let info = link_symbols link in
    let long = link_words.count_of link in
    unit_form (hamming10_carried _ low voice keeps.speech) (ldu_suits 12 info low voice link_code long keeps.speech) 24 12 link_code info long refl hamming10_reading_of nac 5 bare length-ldu1
IsVoiceImage-iff nac (Link2 sync low voice) bare keeps =
    let info = sync_symbols sync in
    let long = sync_words.count_of sync in
    unit_form (hamming10_carried _ low voice keeps.speech) (ldu_suits 16 info low voice sync_code long keeps.speech) 24 16 sync_code info long refl hamming10_reading_of nac 10 bare length-ldu2
IsVoiceImage-iff nac End bare keeps = (
  λ laid. laid_out-only (golay18_carried []) end_suits nac 3 bare length-end laid (λ i inside. absurd (omega (arith, inside, no_words i))),
  λ is. laid_out (golay18_carried []) end_suits nac 3 bare length-end is,
)
IsVoiceImage-iff nac (EndLink link) bare keeps =
    unit_form (golay24_carried _) (tdulc_suits link) 24 12 link_code (link_symbols link) (link_words.count_of link) refl golay24_reading_of nac 15 bare length-tdulc
