-- The values of a voice data unit decode to the data unit, and values that decode to a voice data unit are its values. The octets of values are read
-- in general, by induction on the keys; each type then adds its fields.
use Rattle.std.proofs.Common.{◌≡◌, ℕ, zero, suc, ◌+◌, ◌*◌, ◌/◌, ◌%◌, ◌^◌, ◌<◌, ◌≤◌, ◌&&◌, true, List, [], ◌∷◌, ◌++◌, length, take, drop, map, Option, Some, refl, ap, ap₂, subst, ◌∙◌, arith, length-append, length-take, length-drop}
use Rattle.std.proofs.{lemmas.List.{drop-drop, drop_at, take-append-drop, take_at}, lemmas.List.Elements.{All-nil, All-cons, All-head, All-tail, All-append, All-take, All-drop}}
use Rattle.std.specs.{Prelude.{All}, List.{list_all}, Option.{option_and_then}}
use Rattle.hex.specs.Hex.{encode_lower, lower_digits}
use Rattle.hex.proofs.HexLemmas.{length-encode_with}
use Rattle.p25_bits.specs.Numbers.{pair_at}
use Rattle.p25_line.specs.{Values.{AllOctets}, Words.{is_printed}, CommaLists.{with_entry}}
use Rattle.p25_line.proofs.{HexLaws.{list_all-encode_lower}, WordsLaws.{digits-printed}}
use Rattle.p25_link.specs.Words.{AreNineOctets}
use Rattle.p25_voice_units.specs.{declared.unit.VoiceUnit.{VoiceUnit}, declared.unit.VoiceUnit.TheVariants.{Header, Link1, Link2, End, EndLink}, Sendable.{IsSendableVoice, IsSpeech, IsVoiceFrame}}
use Rattle.p25_voice_units.specs.declared.voice.VoiceFrame.{VoiceFrame}
use Rattle.p25_text.specs.{Names.{other_keys, width_of}, Values.{octets_in}}
use Rattle.p25_text.specs.{Voices.{frame_octets, frames_of, octet_number, octets_behind, pair_of, voice_from, voice_in, voice_kind, voice_octets, voice_values}, declared.names.UnitKey.{UnitKey}}
use Rattle.p25_text.specs.{declared.names.UnitKind.{UnitKind}, declared.names.UnitKind.TheVariants.{Hdu, Ldu1, Ldu2, Tdu, Tdulc}}
use Rattle.p25_text.proofs.{OptionLaws.{option_and_then-found}, ValueLaws.{octets_in-encode_lower, octets_in-text, one_octet, two_octets}, WordLaws.{size_of}}

-- ---- octets of any keys

-- `count` octets
record HasOctets (count : ℕ) (octets : List ℕ) : Type 0 where
  long : length octets ≡ count
  small : AllOctets octets

-- a field has the width of its key, in octets
abbrev AllWide : List UnitKey → List (List ℕ) → Type 0
AllWide [] [] = Unit {0}
AllWide [] (octets ∷ fields) = ⊥
AllWide (key ∷ keys) [] = ⊥
AllWide (key ∷ keys) (octets ∷ fields) = HasOctets (width_of key) octets × AllWide keys fields

octets_behind-encode : (keys : List UnitKey) (fields : List (List ℕ)) → AllWide keys fields → octets_behind keys (map encode_lower fields) ≡ Some fields
octets_behind-encode [] [] wide = refl
octets_behind-encode (key ∷ keys) (octets ∷ fields) wide =
    ap₂ with_entry (octets_in-encode_lower (width_of key) octets wide.0.small wide.0.long) (octets_behind-encode keys fields wide.1)
octets_behind-encode keys fields wide = absurd wide

record AreOctetsOf (keys : List UnitKey) (values fields : List (List ℕ)) : Type 0 where
  texts : map encode_lower fields ≡ values
  wide : AllWide keys fields

octets_more : (key : UnitKey) (keys : List UnitKey) (value : List ℕ) (values : List (List ℕ)) (first : Option (List ℕ)) (others : Option (List (List ℕ))) (fields : List (List ℕ))
    → octets_in (width_of key) value ≡ first → with_entry first others ≡ Some fields → ((rest : List (List ℕ)) → others ≡ Some rest → AreOctetsOf keys values rest)
    → AreOctetsOf (key ∷ keys) (value ∷ values) fields
octets_more key keys value values (Some octets) (Some others) (first ∷ rest) found all step =
    let same_first : octets ≡ first = cc all in
    let same_rest : others ≡ rest = cc all in
    let facts = octets_in-text (width_of key) value first (found ∙ ap Some same_first) in
    let more = step rest (ap Some same_rest) in
    record { texts = ap₂ ◌∷◌ facts.0 more.texts; wide = (record { long = facts.2; small = facts.1 }, more.wide) }
octets_more key keys value values first others fields found all step = cc all

encode-octets_behind : (keys : List UnitKey) (values fields : List (List ℕ)) → octets_behind keys values ≡ Some fields → AreOctetsOf keys values fields
encode-octets_behind [] [] [] found = record { texts = refl; wide = tt }
encode-octets_behind (key ∷ keys) (value ∷ values) fields found =
    octets_more key keys value values (octets_in (width_of key) value) (octets_behind keys values) fields refl found (λ rest h. encode-octets_behind keys values rest h)
encode-octets_behind keys values fields found = cc found

-- there is a value for each key
wide-count : (keys : List UnitKey) (fields : List (List ℕ)) → AllWide keys fields → length keys ≡ length (map encode_lower fields)
wide-count [] [] wide = refl
wide-count (key ∷ keys) (octets ∷ fields) wide = ap suc (wide-count keys fields wide.1)
wide-count keys fields wide = absurd wide

-- values are printed
wide-printed : (keys : List UnitKey) (fields : List (List ℕ)) → AllWide keys fields → list_all (list_all is_printed) (map encode_lower fields) ≡ true
wide-printed [] [] wide = refl
wide-printed (key ∷ keys) (octets ∷ fields) wide =
    ap₂ ◌&&◌ (digits-printed (encode_lower octets) (list_all-encode_lower octets wide.0.small)) (wide-printed keys fields wide.1)
wide-printed keys fields wide = absurd wide

-- the number of octets of the values of keys, with one more for each
abbrev digits_of : List UnitKey → ℕ
digits_of [] = 0
digits_of (key ∷ keys) = suc (2 * width_of key) + digits_of keys

wide-size : (keys : List UnitKey) (fields : List (List ℕ)) → AllWide keys fields → size_of (map encode_lower fields) ≤ digits_of keys
wide-size [] [] wide = omega arith
wide-size (key ∷ keys) (octets ∷ fields) wide = omega (arith, length-encode_with lower_digits octets, wide.0.long, wide-size keys fields wide.1)
wide-size keys fields wide = absurd wide

-- ---- numbers of octets

octet_wide : (octet : ℕ) → octet < 2 ^ 8 → HasOctets 1 (octet ∷ [])
octet_wide octet fits = record { long = refl; small = one_octet octet (omega arith) }

pair_wide : (number : ℕ) → number < 2 ^ 16 → HasOctets 2 (pair_of number)
pair_wide number fits = record { long = refl; small = two_octets (number / 256) (number % 256) (omega arith) (omega arith) }

nine_octets : (octets : List ℕ) → AreNineOctets octets → HasOctets 9 octets
nine_octets octets fits = record { long = fits.long; small = fits.small }

octets_nine : (octets : List ℕ) → HasOctets 9 octets → AreNineOctets octets
octets_nine octets fits = record { long = fits.long; small = fits.small }

pair_at-pair_of : (number : ℕ) → pair_at (pair_of number) 0 ≡ number
pair_at-pair_of number = let whole : 256 * (number / 256) + number % 256 ≡ number = omega arith in whole

octet_back : (octets : List ℕ) → HasOctets 1 octets → (octet_number octets ∷ [] ≡ octets) × (octet_number octets < 2 ^ 8)
octet_back [] fits = let none : 0 ≡ 1 = fits.long in absurd (omega arith)
octet_back (octet ∷ []) fits = let small : octet < 256 = All-head (λ o. o < 256) octet [] fits.small in (refl, omega arith)
octet_back (octet ∷ next ∷ octets) fits = let more : suc (suc (length octets)) ≡ 1 = fits.long in absurd (omega arith)

pair_back : (octets : List ℕ) → HasOctets 2 octets → (pair_of (pair_at octets 0) ≡ octets) × (pair_at octets 0 < 2 ^ 16)
pair_back [] fits = let none : 0 ≡ 2 = fits.long in absurd (omega arith)
pair_back (octet ∷ []) fits = let one : 1 ≡ 2 = fits.long in absurd (omega arith)
pair_back (high ∷ low ∷ []) fits =
    let upper : high < 256 = All-head (λ o. o < 256) high (low ∷ []) fits.small in
    let lower : low < 256 = All-head (λ o. o < 256) low [] (All-tail (λ o. o < 256) high (low ∷ []) fits.small) in
    let first : (256 * high + low) / 256 ≡ high = omega arith in
    let second : (256 * high + low) % 256 ≡ low = omega arith in
    (ap₂ (λ h l. h ∷ l ∷ []) first second, omega arith)
pair_back (high ∷ low ∷ next ∷ octets) fits = let more : suc (suc (suc (length octets))) ≡ 2 = fits.long in absurd (omega arith)

-- ---- voice frames

-- the number of octets of frames, and that they are octets
frames-octets : (frames : List VoiceFrame) → All IsVoiceFrame frames → HasOctets (18 * length frames) (frame_octets frames)
unfolding frame_octets
frames-octets [] each = record { long = refl; small = All-nil (λ o. o < 256) }
frames-octets (frame ∷ frames) each =
    let first : IsVoiceFrame frame = All-head IsVoiceFrame frame frames each in
    let others = frames-octets frames (All-tail IsVoiceFrame frame frames each) in
    record {
      long = omega (arith, length-append frame.0 (frame_octets frames), first.long, others.long);
      small = All-append (λ o. o < 256) frame.0 (frame_octets frames) first.small others.small;
    }

-- frames are read from their octets
frames_of-octets : (n : ℕ) (frames : List VoiceFrame) → length frames ≡ n → All IsVoiceFrame frames → frames_of n (frame_octets frames) ≡ frames
unfolding frame_octets frames_of
frames_of-octets zero [] same each = refl
frames_of-octets (suc n) (frame ∷ frames) same each =
    let first : IsVoiceFrame frame = All-head IsVoiceFrame frame frames each in
    let make : List ℕ → VoiceFrame = λ octets. record { 0 = octets } in
    ap₂ ◌∷◌
    (ap make (take_at frame.0 (frame_octets frames) 18 first.long))
    (ap (frames_of n) (drop_at frame.0 (frame_octets frames) 18 first.long)
    ∙ frames_of-octets n frames (omega arith) (All-tail IsVoiceFrame frame frames each))
frames_of-octets n frames same each = absurd (omega arith)

-- the octets of frames that were read
octets-frames_of : (n : ℕ) (octets : List ℕ) → HasOctets (18 * n) octets
    → (frame_octets (frames_of n octets) ≡ octets) × (length (frames_of n octets) ≡ n) × All IsVoiceFrame (frames_of n octets)
unfolding frame_octets frames_of
octets-frames_of zero [] fits = (refl, refl, All-nil IsVoiceFrame)
octets-frames_of zero (octet ∷ octets) fits = let more : suc (length octets) ≡ 18 * 0 = fits.long in absurd (omega arith)
octets-frames_of (suc n) octets fits =
    let long : length octets ≡ 18 * suc n = fits.long in
    let rest : HasOctets (18 * n) (drop 18 octets) = record { long = omega (arith, length-drop 18 octets); small = All-drop (λ o. o < 256) 18 octets fits.small } in
    let others = octets-frames_of n (drop 18 octets) rest in
    let frame : VoiceFrame = record { 0 = take 18 octets } in
    let first : IsVoiceFrame frame = record { long = omega (arith, length-take 18 octets); small = All-take (λ o. o < 256) 18 octets fits.small } in
    (ap (λ l. take 18 octets ++ l) others.0 ∙ take-append-drop 18 octets, ap suc others.1, All-cons IsVoiceFrame frame (frames_of n (drop 18 octets)) first others.2)

speech_wide : (low : List ℕ) (frames : List VoiceFrame) → IsSpeech low frames → HasOctets 162 (frame_octets frames)
speech_wide low frames fits = subst (λ n. HasOctets (18 * n) (frame_octets frames)) fits.nine (frames-octets frames fits.frames)

low_wide : (low : List ℕ) (frames : List VoiceFrame) → IsSpeech low frames → HasOctets 2 low
low_wide low frames fits = record { long = fits.two; small = fits.small }

-- ---- for each type

-- the fields of a data unit have the widths of their keys
voice-wide : (unit : VoiceUnit) → IsSendableVoice unit → AllWide (other_keys (voice_kind unit)) (voice_octets unit)
unfolding IsSendableVoice
voice-wide (Header word) fits =
    (nine_octets word.mi fits.mi, (octet_wide word.mfid fits.mfid, (octet_wide word.algid fits.algid, (pair_wide word.kid fits.kid, (pair_wide word.tgid fits.tgid, tt)))))
voice-wide (Link1 link low voice) fits = (nine_octets link.0 fits.word.octets, (low_wide low voice fits.speech, (speech_wide low voice fits.speech, tt)))
voice-wide (Link2 sync low voice) fits =
    (nine_octets sync.mi fits.word.mi, (octet_wide sync.algid fits.word.algid, (pair_wide sync.kid fits.word.kid, (low_wide low voice fits.speech, (speech_wide low voice fits.speech, tt)))))
voice-wide End fits = tt
voice-wide (EndLink link) fits = (nine_octets link.0 fits.octets, tt)

-- the data unit of the octets of a data unit
voice_from-octets : (unit : VoiceUnit) → IsSendableVoice unit → voice_from (voice_kind unit) (voice_octets unit) ≡ Some unit
unfolding IsSendableVoice
voice_from-octets (Header word) fits =
    λ i. Some (Header (record { mi = word.mi; mfid = word.mfid; algid = word.algid; kid = pair_at-pair_of word.kid i; tgid = pair_at-pair_of word.tgid i }))
voice_from-octets (Link1 link low voice) fits = ap (λ v. Some (Link1 link low v)) (frames_of-octets 9 voice fits.speech.nine fits.speech.frames)
voice_from-octets (Link2 sync low voice) fits =
    λ i. Some (Link2 (record { mi = sync.mi; algid = sync.algid; kid = pair_at-pair_of sync.kid i }) low (frames_of-octets 9 voice fits.speech.nine fits.speech.frames i))
voice_from-octets unit fits = refl

-- a data unit that is made of octets has them
record IsMadeOf (kind : UnitKind) (octets : List (List ℕ)) (unit : VoiceUnit) : Type 0 where
  same_kind : voice_kind unit ≡ kind
  same_octets : voice_octets unit ≡ octets
  fits : IsSendableVoice unit

made : (kind : UnitKind) (octets : List (List ℕ)) (one unit : VoiceUnit) → Some one ≡ Some unit → IsMadeOf kind octets one → IsMadeOf kind octets unit
made kind octets one unit found facts = let same : one ≡ unit = cc found in subst (IsMadeOf kind octets) same facts

header_of : List ℕ → List ℕ → List ℕ → List ℕ → List ℕ → VoiceUnit
header_of mi mfid algid kid tgid =
    Header (record { mi = mi; mfid = octet_number mfid; algid = octet_number algid; kid = pair_at kid 0; tgid = pair_at tgid 0 })

ldu2_of : List ℕ → List ℕ → List ℕ → List ℕ → List ℕ → VoiceUnit
ldu2_of mi algid kid low voice = Link2 (record { mi = mi; algid = octet_number algid; kid = pair_at kid 0 }) low (frames_of 9 voice)

speech_of : (low voice : List ℕ) → HasOctets 2 low → HasOctets 162 voice → (frame_octets (frames_of 9 voice) ≡ voice) × IsSpeech low (frames_of 9 voice)
speech_of low voice two all =
    let facts = octets-frames_of 9 voice all in
    (facts.0, record { two = two.long; small = two.small; nine = facts.1; frames = facts.2 })

octets-voice_from : (kind : UnitKind) (octets : List (List ℕ)) (unit : VoiceUnit) → AllWide (other_keys kind) octets → voice_from kind octets ≡ Some unit → IsMadeOf kind octets unit
unfolding header_of ldu2_of IsSendableVoice
octets-voice_from Hdu (mi ∷ mfid ∷ algid ∷ kid ∷ tgid ∷ []) unit wide found =
    let one = octet_back mfid wide.1.0 in
    let two = octet_back algid wide.1.1.0 in
    let three = pair_back kid wide.1.1.1.0 in
    let four = pair_back tgid wide.1.1.1.1.0 in
    made Hdu (mi ∷ mfid ∷ algid ∷ kid ∷ tgid ∷ []) (header_of mi mfid algid kid tgid) unit found (record {
      same_kind = refl;
      same_octets = λ i. mi ∷ one.0 i ∷ two.0 i ∷ three.0 i ∷ four.0 i ∷ [];
      fits = record { mi = octets_nine mi wide.0; mfid = one.1; algid = two.1; kid = three.1; tgid = four.1 };
    })
octets-voice_from Ldu1 (link ∷ low ∷ voice ∷ []) unit wide found =
    let facts = speech_of low voice wide.1.0 wide.1.1.0 in
    made Ldu1 (link ∷ low ∷ voice ∷ []) (Link1 (record { 0 = link }) low (frames_of 9 voice)) unit found (record {
      same_kind = refl;
      same_octets = ap (λ v. link ∷ low ∷ v ∷ []) facts.0;
      fits = record { word = record { octets = octets_nine link wide.0 }; speech = facts.1 };
    })
octets-voice_from Ldu2 (mi ∷ algid ∷ kid ∷ low ∷ voice ∷ []) unit wide found =
    let one = octet_back algid wide.1.0 in
    let two = pair_back kid wide.1.1.0 in
    let facts = speech_of low voice wide.1.1.1.0 wide.1.1.1.1.0 in
    made Ldu2 (mi ∷ algid ∷ kid ∷ low ∷ voice ∷ []) (ldu2_of mi algid kid low voice) unit found (record {
      same_kind = refl;
      same_octets = λ i. mi ∷ one.0 i ∷ two.0 i ∷ low ∷ facts.0 i ∷ [];
      fits = record { word = record { mi = octets_nine mi wide.0; algid = one.1; kid = two.1 }; speech = facts.1 };
    })
octets-voice_from Tdu [] unit wide found = made Tdu [] End unit found (record { same_kind = refl; same_octets = refl; fits = tt })
octets-voice_from Tdulc (link ∷ []) unit wide found =
    made Tdulc (link ∷ []) (EndLink (record { 0 = link })) unit found (record { same_kind = refl; same_octets = refl; fits = record { octets = octets_nine link wide.0 } })
octets-voice_from kind octets unit wide found = cc found

digits-few : (kind : UnitKind) → digits_of (other_keys kind) ≤ 4620
digits-few Hdu = omega arith
digits-few kind = omega arith

-- ---- all voice data units

-- there is a value for each key
pub voice-count : (unit : VoiceUnit) → IsSendableVoice unit → length (other_keys (voice_kind unit)) ≡ length (voice_values unit)
voice-count unit fits = wide-count (other_keys (voice_kind unit)) (voice_octets unit) (voice-wide unit fits)

-- values are printed, and not too long for a line
pub voice-printed : (unit : VoiceUnit) → IsSendableVoice unit → list_all (list_all is_printed) (voice_values unit) ≡ true
voice-printed unit fits = wide-printed (other_keys (voice_kind unit)) (voice_octets unit) (voice-wide unit fits)

pub voice-short : (unit : VoiceUnit) → IsSendableVoice unit → size_of (voice_values unit) ≤ 4620
voice-short unit fits = omega (arith, wide-size (other_keys (voice_kind unit)) (voice_octets unit) (voice-wide unit fits), digits-few (voice_kind unit))

-- the values of a data unit decode to it
pub voice_in-values : (unit : VoiceUnit) → IsSendableVoice unit → voice_in (voice_kind unit) (voice_values unit) ≡ Some unit
voice_in-values unit fits =
    ap (option_and_then (voice_from (voice_kind unit))) (octets_behind-encode (other_keys (voice_kind unit)) (voice_octets unit) (voice-wide unit fits))
    ∙ voice_from-octets unit fits

-- a data unit to which values decode has these values
pub record IsVoiceRead (kind : UnitKind) (values : List (List ℕ)) (unit : VoiceUnit) : Type 0 where
  pub same_kind : voice_kind unit ≡ kind
  pub same_values : voice_values unit ≡ values
  pub fits : IsSendableVoice unit

pub values-voice_in : (kind : UnitKind) (values : List (List ℕ)) (unit : VoiceUnit) → voice_in kind values ≡ Some unit → IsVoiceRead kind values unit
values-voice_in kind values unit found =
    let first = option_and_then-found (voice_from kind) (octets_behind (other_keys kind) values) unit found in
    let texts = encode-octets_behind (other_keys kind) values first.0 first.1 in
    let read = octets-voice_from kind first.0 unit texts.wide first.2 in
    record { same_kind = read.same_kind; same_values = ap (map encode_lower) read.same_octets ∙ texts.texts; fits = read.fits }

-- nine frames, as they are read one by one
pub frames_of-nine : (octets : List ℕ)
    → record { 0 = take 18 (drop 0 octets) } ∷ record { 0 = take 18 (drop 18 octets) } ∷ record { 0 = take 18 (drop 36 octets) } ∷ record { 0 = take 18 (drop 54 octets) }
    ∷ record { 0 = take 18 (drop 72 octets) } ∷ record { 0 = take 18 (drop 90 octets) } ∷ record { 0 = take 18 (drop 108 octets) } ∷ record { 0 = take 18 (drop 126 octets) }
    ∷ record { 0 = take 18 (drop 144 octets) } ∷ [] ≡ frames_of 9 octets
unfolding frames_of
frames_of-nine octets = simp drop-drop
