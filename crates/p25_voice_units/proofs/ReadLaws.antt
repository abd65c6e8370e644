-- The decoder of voice data units: each decoded part is the part that the definition names, by the result of the part's decoder.
use Rattle.std.proofs.Common.{◌≡◌, ℕ, zero, suc, ◌+◌, ◌/◌, ◌%◌, ◌^◌, ◌<◌, ◌≤◌, Bool, true, false, List, [], ◌∷◌, ◌++◌, length, take, map, set, slice_index, Option, Some, None, IfSome, option_map, refl, sym, arith, lit≤}
use Rattle.std.proofs.lemmas.List.{append-nil, map_more, take_all, take_more_set}
use Rattle.std.specs.Option.{is_some}
use Rattle.p25_bits.specs.Bits.{bits_of, field_of}
use Rattle.p25_bits.proofs.BitsLaws.{field_of-bits_of, take-bits_of}
use Rattle.p25_status.specs.declared.fields.Field.{Field}
use Rattle.p25_voice_units.specs.{declared.voice.VoiceFrame.{VoiceFrame}, Layouts.{ldu_rows}, Readings.{frame_places, low_places, frame_in, voice_in, missing}}

-- a decoded part is a function of its symbols, also if only the number of its corrected bits is returned beside them
pub part_counted : {S W : Type 0} (f : S → W) (answer : Option ℕ) (value : Option S) (symbols : S) (word : W)
    → option_map (λ n. symbols) answer ≡ value → word ≡ f symbols → option_map (λ n. word) answer ≡ option_map f value
part_counted f None value symbols word is made = rw (← is) refl
part_counted f (Some n) value symbols word is made = rw (← is, made) refl

-- a property of a part, if it was decoded
pub some_at : {X : Type 0} (P : X → Type 0) (answer : Option X) (x : X) → IfSome answer P → answer ≡ Some x → P x
some_at P answer x is some = rw some at is

-- a field that was not read is noted
pub noted : {X : Type 0} (fields new : List Field) (field : Field) (part : Option X) → is_some part ≡ false → new ≡ fields ++ field ∷ [] → new ≡ fields ++ missing field part
unfolding missing
noted fields new field None none is = is
noted fields new field (Some x) none is = absurd (cc)

-- and no other
pub not_noted : {X : Type 0} (fields : List Field) (field : Field) (part : Option X) → is_some part ≡ true → fields ≡ fields ++ missing field part
unfolding missing
not_noted fields field None some = absurd (cc)
not_noted fields field (Some x) some = sym (append-nil fields)

-- the positions of the low speed data words
pub low_place-le : (i : ℕ) → i < 2 → slice_index (low_places ldu_rows) i ≤ 1520
unfolding low_places
low_place-le zero inside = omega arith
low_place-le (suc zero) inside = omega arith
low_place-le (suc (suc i)) inside = absurd (omega arith)

-- the octet of a word
pub low_octet : (value : ℕ) → value < 2 ^ 16 → value / 2 ^ 8 ≡ field_of (take 8 (bits_of 16 value))
low_octet value small =
    let below : value / 256 % 256 ≡ value / 256 = omega arith in
    rw (take-bits_of 8 16 value (lit≤ tt), field_of-bits_of 8 (value / 2 ^ 8)) (sym below)

-- there are nine voice frames
pub nine_frames : length (frame_places ldu_rows) ≡ 9
unfolding frame_places
nine_frames = refl

-- one more of them was decoded
pub frames_next : (i : ℕ) (bare : List Bool) (frames : List VoiceFrame) (frame : VoiceFrame) → i < 9 → length frames ≡ 9 → take i frames ≡ map (λ at. frame_in at bare) (take i (frame_places ldu_rows))
    → frame ≡ frame_in (slice_index (frame_places ldu_rows) i) bare → take (i + 1) (set frames i frame) ≡ map (λ at. frame_in at bare) (take (i + 1) (frame_places ldu_rows))
frames_next i bare frames frame inside nine before is =
    let there : i < length frames = omega arith in
    let within : i < length (frame_places ldu_rows) = omega (arith, nine_frames) in
    rw (take_more_set frames i frame there, before, is) (sym (map_more (λ at. frame_in at bare) (frame_places ldu_rows) i 0 within))

-- all of them
pub frames_all : (i : ℕ) (bare : List Bool) (frames : List VoiceFrame)
    → i ≡ 9 → length frames ≡ 9 → take i frames ≡ map (λ at. frame_in at bare) (take i (frame_places ldu_rows)) → frames ≡ voice_in bare
unfolding voice_in
frames_all i bare frames all nine is =
    let fits : length frames ≤ i = omega arith in
    let every : length (frame_places ldu_rows) ≤ i = omega (arith, nine_frames) in
    rw (take_all i frames fits, take_all i (frame_places ldu_rows) every) at is
