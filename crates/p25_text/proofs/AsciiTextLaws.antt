-- The texts of data units, items and calls have octets below 128 alone. By the texts of which they are made.
use Rattle.std.proofs.{Common.{◌≡◌, ℕ, ◌+◌, ◌<◌, ◌&&◌, Bool, true, false, List, [], ◌∷◌, Option, Some, None, refl, ap₂, arith}, lemmas.Bool.{and_parts, lt-ltb}}
use Rattle.std.specs.{Prelude.{codes, decimal}, List.{list_all}}
use Rattle.hex.specs.Hex.{encode_lower}
use Rattle.p25_line.specs.Values.{three_digits}
use Rattle.p25_line.proofs.AsciiLaws.{ascii-append, ascii-comma_text, ascii-decimal, ascii-drop, ascii-encode_lower, ascii-join, ascii-joined, ascii-list_text, ascii-map, ascii-octets_text, ascii-three_digits, ascii-word, is_ascii}
use Rattle.p25_status.specs.{FieldNames.{field_name, field_names}, Status.{status_number}, declared.fields.Field.{Field}, declared.fields.Field.TheVariants.{Block}, declared.symbols.Status.{Status}}
use Rattle.p25_link.specs.declared.link_control.LinkControl.{LinkControl as Link}
use Rattle.p25_calls.specs.{declared.call.Call.{Call}, declared.call.CallEnd.{CallEnd}, declared.call.CallEnd.TheVariants.{Tdu}, CallTexts.{algid_text, call_text_of, end_word, entry_word, link_text}}
use Rattle.p25_packet_blocks.specs.{declared.block.Slot.{Slot}, declared.block.Slot.TheVariants.{Good, Bad}, declared.packet.Packet.{Packet as BlockPacket}}
use Rattle.p25_packet_blocks.specs.declared.packet.Packet.TheVariants.{Confirmed, Plain}
use Rattle.p25_units.specs.{UnitParts.{UnitParts}, Units.{frame_length_of}, declared.item.Item.{Item}, declared.item.Item.TheVariants.{Whole, Broken, NoUnit, Gap, Cut}, declared.unit.Body.{Body}}
use Rattle.p25_units.specs.declared.unit.Body.TheVariants.{Voice, Packet}
use Rattle.p25_text.specs.{Grammar.{body_values, keyed, kind_of, text_of, unit_words, values_of}, ItemTexts.{item_text_of, one_digit, status_digits}, Names.{key_text, keys_of, kind_word}}
use Rattle.p25_text.specs.{Packets.{packet_values, slot_text}, Voices.{voice_octets}, declared.names.UnitKey.{UnitKey}}
use Rattle.p25_text.proofs.{GrammarLaws.{kind-word}, WordLaws.{key-word}}

-- ---- data units

ascii-keyed : (keys : List UnitKey) (values : List (List ℕ)) → list_all is_ascii values ≡ true → list_all is_ascii (keyed keys values) ≡ true
ascii-keyed (key ∷ keys) (value ∷ values) all =
    let parts = and_parts (is_ascii value) (list_all is_ascii values) all in
    ap₂ ◌&&◌ (ascii-append (key_text key) value (ascii-word (key_text key) (key-word key)) parts.0) (ascii-keyed keys values parts.1)
ascii-keyed keys values all = refl

ascii-slot : (slot : Slot) → is_ascii (slot_text slot) ≡ true
ascii-slot (Good block) = ascii-append (encode_lower (block.serial ∷ [])) (58 ∷ encode_lower block.octets) (ascii-encode_lower (block.serial ∷ [])) (ascii-encode_lower block.octets)
ascii-slot Bad = refl

ascii-packet : (packet : BlockPacket) → list_all is_ascii (packet_values packet) ≡ true
ascii-packet (Confirmed packet) = ap₂ ◌&&◌ (ascii-encode_lower packet.head.0) (ap₂ ◌&&◌ (ascii-list_text slot_text ascii-slot packet.slots) refl)
ascii-packet (Plain packet) = ap₂ ◌&&◌ (ascii-encode_lower packet.head.0) (ap₂ ◌&&◌ (ascii-octets_text packet.octets) refl)

ascii-body : (body : Body) → list_all is_ascii (body_values body) ≡ true
ascii-body (Voice voice) = ascii-map encode_lower ascii-encode_lower (voice_octets voice)
ascii-body (Packet packet) = ascii-packet packet

pub ascii-text_of : (unit : UnitParts) → is_ascii (text_of unit) ≡ true
unfolding text_of
ascii-text_of unit =
    let kind = kind_of unit.body in
    ascii-join 32 refl (unit_words unit)
    (ap₂ ◌&&◌ (ascii-word (kind_word kind) (kind-word kind)) (ascii-keyed (keys_of kind) (values_of unit) (ap₂ ◌&&◌ (ascii-three_digits unit.nac) (ascii-body unit.body))))

-- ---- items

pub ascii-field_name : (field : Field) → is_ascii (field_name field) ≡ true
ascii-field_name (Block block) = ascii-decimal block
ascii-field_name field = refl

ascii-status_digits : (statuses : List Status) → is_ascii (status_digits statuses) ≡ true
unfolding status_digits
ascii-status_digits [] = refl
ascii-status_digits (status ∷ statuses) =
    let below : status_number status < 4 = status.below in
    ap₂ ◌&&◌ (lt-ltb (48 + status_number status) 128 (omega arith)) (ascii-status_digits statuses)

pub ascii-item_text_of : (item : Item) → is_ascii (item_text_of item) ≡ true
unfolding item_text_of
ascii-item_text_of (Whole place frame fixes) =
    ascii-joined (codes "unit at=")
    (decimal place ∷ codes " bits=" ∷ decimal (frame_length_of frame.unit) ∷ codes " fix=" ∷ decimal fixes ∷ codes " status=" ∷ status_digits frame.statuses ∷ codes " " ∷ text_of frame.unit ∷ [])
    refl
    (ap₂ ◌&&◌ (ascii-decimal place) (ap₂ ◌&&◌ (ascii-decimal (frame_length_of frame.unit)) (ap₂ ◌&&◌ (ascii-decimal fixes)
    (ap₂ ◌&&◌ (ascii-status_digits frame.statuses) (ap₂ ◌&&◌ (ascii-text_of frame.unit) refl)))))
ascii-item_text_of (Broken place count nac duid fields) =
    ascii-joined (codes "broken at=")
    (decimal place ∷ codes " bits=" ∷ decimal count ∷ codes " nac=" ∷ three_digits nac ∷ codes " duid=" ∷ one_digit duid ∷ codes " fields=" ∷ field_names fields ∷ [])
    refl
    (ap₂ ◌&&◌ (ascii-decimal place) (ap₂ ◌&&◌ (ascii-decimal count) (ap₂ ◌&&◌ (ascii-three_digits nac)
    (ap₂ ◌&&◌ (ascii-drop 1 (encode_lower (duid ∷ [])) (ascii-encode_lower (duid ∷ []))) (ap₂ ◌&&◌ (ascii-comma_text field_name ascii-field_name fields) refl)))))
ascii-item_text_of (NoUnit place field) =
    ascii-joined (codes "nounit at=") (decimal place ∷ codes " field=" ∷ field_name field ∷ []) refl (ap₂ ◌&&◌ (ascii-decimal place) (ap₂ ◌&&◌ (ascii-field_name field) refl))
ascii-item_text_of (Gap place count) =
    ascii-joined (codes "gap at=") (decimal place ∷ codes " bits=" ∷ decimal count ∷ []) refl (ap₂ ◌&&◌ (ascii-decimal place) (ap₂ ◌&&◌ (ascii-decimal count) refl))
ascii-item_text_of (Cut place have) =
    ascii-joined (codes "cut at=") (decimal place ∷ codes " bits=" ∷ decimal have ∷ []) refl (ap₂ ◌&&◌ (ascii-decimal place) (ap₂ ◌&&◌ (ascii-decimal have) refl))

-- ---- calls

ascii-entry : (late : Bool) → is_ascii (entry_word late) ≡ true
ascii-entry true = refl
ascii-entry false = refl

ascii-end : (end : CallEnd) → is_ascii (end_word end) ≡ true
ascii-end Tdu = refl
ascii-end end = refl

ascii-link : (link : Option Link) → is_ascii (link_text link) ≡ true
ascii-link None = refl
ascii-link (Some link) = ascii-encode_lower link.0

ascii-algid : (algid : Option ℕ) → is_ascii (algid_text algid) ≡ true
ascii-algid None = refl
ascii-algid (Some algid) = ascii-encode_lower (algid ∷ [])

pub ascii-call_text_of : (call : Call) → is_ascii (call_text_of call) ≡ true
unfolding call_text_of
ascii-call_text_of call =
    ascii-joined (codes "call at=")
    (decimal call.place ∷ codes " bits=" ∷ decimal call.bits ∷ codes " nac=" ∷ three_digits call.nac ∷ codes " entry=" ∷ entry_word call.late ∷ codes " end=" ∷ end_word call.end
    ∷ codes " links=" ∷ decimal call.links ∷ codes " broken=" ∷ decimal call.broken ∷ codes " lc=" ∷ link_text call.link ∷ codes " alg=" ∷ algid_text call.algid ∷ [])
    refl
    (ap₂ ◌&&◌ (ascii-decimal call.place) (ap₂ ◌&&◌ (ascii-decimal call.bits) (ap₂ ◌&&◌ (ascii-three_digits call.nac) (ap₂ ◌&&◌ (ascii-entry call.late) (ap₂ ◌&&◌ (ascii-end call.end)
    (ap₂ ◌&&◌ (ascii-decimal call.links) (ap₂ ◌&&◌ (ascii-decimal call.broken) (ap₂ ◌&&◌ (ascii-link call.link) (ap₂ ◌&&◌ (ascii-algid call.algid) refl)))))))))
