-- The lines of data units, as they are joined: the words of a line are its type and, after a space each, its keys with their values.
use Rattle.std.proofs.Common.{◌≡◌, ℕ, ◌+◌, ◌/◌, ◌%◌, ◌<◌, ◌==◌, Bool, true, false, cond, List, [], ◌∷◌, ◌++◌, take, slice_get, slice_index, Some, refl, sym, ap, ap₂, ◌∙◌, append-nil, append_assoc, arith}
use Rattle.std.specs.{Int.{to_be_bytes, w16}, List.{join_with_byte}}
use Rattle.hex.specs.Hex.{encode_lower, encode_with, lower_digits}
use Rattle.p25_packet_blocks.specs.{Heads.{head_format}, declared.packet.Packet.{Packet as PacketParts}, declared.packet.Packet.TheVariants.{Confirmed, Plain}}
use Rattle.p25_voice_units.specs.declared.voice.VoiceFrame.{VoiceFrame}
use Rattle.p25_units.specs.{UnitParts.{UnitParts}, declared.unit.Body.TheVariants.{Packet}}
use Rattle.p25_line.specs.Values.{three_digits}
use Rattle.p25_text.specs.{Grammar.{body_values, keyed, kind_of, text_of, values_of}, Names.{key_at, key_text, keys_of, kind_word, other_keys}, Packets.{packet_kind, packet_values}}
use Rattle.p25_text.specs.{Voices.{frame_octets, pair_of}, declared.names.UnitKey.{UnitKey}, declared.names.UnitKey.TheVariants.{Nac}, declared.names.UnitKind.{UnitKind}}
use Rattle.p25_text.specs.declared.names.UnitKind.TheVariants.{Plain as PlainKind, Response as ResponseKind}
use Rattle.p25_line.proofs.CommaWriteLaws.{take-read}

-- keys with their values, a space before each
abbrev pub tail_text : List UnitKey → List (List ℕ) → List ℕ
tail_text [] values = []
tail_text (key ∷ keys) [] = []
tail_text (key ∷ keys) (value ∷ values) = (32 ∷ key_text key ++ value) ++ tail_text keys values

join-tail : (word : List ℕ) (keys : List UnitKey) (values : List (List ℕ)) → join_with_byte 32 (word ∷ keyed keys values) ≡ word ++ tail_text keys values
join-tail word (key ∷ keys) (value ∷ values) = ap (λ l. word ++ 32 ∷ l) (join-tail (key_text key ++ value) keys values)
join-tail word keys values = sym (append-nil word)

-- the line of a data unit
text-tail : (unit : UnitParts) → text_of unit ≡ kind_word (kind_of unit.body) ++ tail_text (keys_of (kind_of unit.body)) (values_of unit)
unfolding text_of
text-tail unit = join-tail (kind_word (kind_of unit.body)) (keys_of (kind_of unit.body)) (values_of unit)

-- the beginning of every line
abbrev pub start_text : UnitKind → ℕ → List ℕ
start_text kind nac = kind_word kind ++ 32 ∷ key_text Nac ++ three_digits nac

-- a line by its beginning and the rest
text-start : (unit : UnitParts) → text_of unit ≡ start_text (kind_of unit.body) unit.nac ++ tail_text (other_keys (kind_of unit.body)) (body_values unit.body)
text-start unit =
    let kind = kind_of unit.body in
    text-tail unit ∙ regroup (kind_word kind) (32 ∷ key_text Nac) (three_digits unit.nac) (tail_text (other_keys kind) (body_values unit.body))
  where
    regroup : (a b c d : List ℕ) → a ++ ((b ++ c) ++ d) ≡ ((a ++ b) ++ c) ++ d
    regroup a b c d = simp append_assoc

-- texts after each other
abbrev joined : List ℕ → List (List ℕ) → List ℕ
joined out [] = out
joined out (part ∷ parts) = joined (out ++ part) parts

-- keys with their values, each after those before
abbrev fields_text : List UnitKey → List (List ℕ) → List (List ℕ)
fields_text [] values = []
fields_text (key ∷ keys) [] = []
fields_text (key ∷ keys) (value ∷ values) = (32 ∷ key_text key ++ value) ∷ fields_text keys values

joined-tail : (keys : List UnitKey) (values : List (List ℕ)) (out : List ℕ) → joined out (fields_text keys values) ≡ out ++ tail_text keys values
joined-tail (key ∷ keys) (value ∷ values) out =
    joined-tail keys values (out ++ (32 ∷ key_text key ++ value)) ∙ append_assoc out (32 ∷ key_text key ++ value) (tail_text keys values)
joined-tail keys values out = sym (append-nil out)

-- a line is appended by its beginning and then each key with its value
pub unit-put : (unit : UnitParts) (out now : List ℕ) → now ≡ joined (out ++ start_text (kind_of unit.body) unit.nac) (fields_text (other_keys (kind_of unit.body)) (body_values unit.body))
    → now ≡ out ++ text_of unit
unit-put unit out now is =
    let kind = kind_of unit.body in
    is
    ∙ joined-tail (other_keys kind) (body_values unit.body) (out ++ start_text kind unit.nac)
    ∙ append_assoc out (start_text kind unit.nac) (tail_text (other_keys kind) (body_values unit.body))
    ∙ ap (λ l. out ++ l) (sym (text-start unit))

-- the octets of a number of two octets, the higher first
pub pair-octets : (number : ℕ) → number < 65536 → to_be_bytes w16 number ≡ pair_of number
pair-octets number small = let high : number / 256 % 256 ≡ number / 256 = omega arith in ap (λ h. h ∷ number % 256 ∷ []) high

-- ---- packets

packet_keys : (packet : PacketParts) → other_keys (packet_kind packet) ≡ key_at (packet_kind packet) 1 ∷ key_at (packet_kind packet) 2 ∷ []
packet_keys (Confirmed packet) = refl
packet_keys (Plain packet) = plain_keys (head_format packet.head == 0x03)
  where
    plain_keys : (response : Bool) → other_keys (cond response ResponseKind PlainKind) ≡ key_at (cond response ResponseKind PlainKind) 1 ∷ key_at (cond response ResponseKind PlainKind) 2 ∷ []
    plain_keys true = refl
    plain_keys false = refl

-- the line of a packet (PDU) is appended by its beginning, its first key with the value, its last key, and the value of that
pub packet-put : (nac : ℕ) (packet : PacketParts) (kind : UnitKind) (head last out one two three four : List ℕ) → kind ≡ packet_kind packet → head ∷ last ∷ [] ≡ packet_values packet
    → one ≡ out ++ start_text kind nac → two ≡ one ++ (32 ∷ key_text (key_at kind 1) ++ head) → three ≡ two ++ 32 ∷ key_text (key_at kind 2) → four ≡ three ++ last
    → four ≡ out ++ text_of (record { nac = nac; body = Packet packet })
packet-put nac packet kind head last out one two three four same_kind same_values first second third fourth =
    let key : ℕ → List ℕ = λ i. 32 ∷ key_text (key_at kind i) in
    unit-put (record { nac = nac; body = Packet packet }) out four (
    fourth ∙ ap (λ l. l ++ last) third ∙ append_assoc two (key 2) last ∙ ap (λ l. l ++ (key 2 ++ last)) (second ∙ ap (λ l. l ++ (key 1 ++ head)) first)
    ∙ ap (λ k. joined (out ++ start_text k nac) (fields_text (key_at k 1 ∷ key_at k 2 ∷ []) (head ∷ last ∷ []))) same_kind
    ∙ ap₂ (λ keys values. joined (out ++ start_text (packet_kind packet) nac) (fields_text keys values)) (sym (packet_keys packet)) same_values
    )

-- ---- voice frames

-- frames one after the other
pub frames-none : (frames : List VoiceFrame) → encode_lower (frame_octets (take 0 frames)) ≡ []
unfolding frame_octets encode_with
frames-none frames = refl

encode-append : (a b : List ℕ) → encode_lower (a ++ b) ≡ encode_lower a ++ encode_lower b
unfolding encode_with
encode-append [] b = refl
encode-append (octet ∷ a) b = ap (λ l. slice_index lower_digits (octet / 16) ∷ slice_index lower_digits (octet % 16) ∷ l) (encode-append a b)

frame_octets-push : (frames : List VoiceFrame) (frame : VoiceFrame) → frame_octets (frames ++ frame ∷ []) ≡ frame_octets frames ++ frame.0
unfolding frame_octets
frame_octets-push [] frame = append-nil frame.0
frame_octets-push (first ∷ frames) frame = ap (λ l. first.0 ++ l) (frame_octets-push frames frame) ∙ sym (append_assoc first.0 (frame_octets frames) frame.0)

pub next-frame : (frames : List VoiceFrame) (i : ℕ) (frame : VoiceFrame) (start out new : List ℕ) → slice_get frames i ≡ Some frame
    → out ≡ start ++ encode_lower (frame_octets (take i frames)) → new ≡ out ++ encode_lower frame.0 → new ≡ start ++ encode_lower (frame_octets (take (i + 1) frames))
next-frame frames i frame start out new read before after =
    after ∙ ap (λ l. l ++ encode_lower frame.0) before
    ∙ append_assoc start (encode_lower (frame_octets (take i frames))) (encode_lower frame.0)
    ∙ ap (λ l. start ++ l) (sym (encode-append (frame_octets (take i frames)) frame.0)
    ∙ ap encode_lower (sym (frame_octets-push (take i frames) frame) ∙ ap frame_octets (sym (take-read frames i frame read))))
