-- The line of a data unit decodes to that data unit, and a line that is read is the line of its data unit. By cases on the result of each step of
-- reading.
use Rattle.std.proofs.Common.{◌≡◌, ℕ, suc, ◌≤◌, ◌&&◌, true, List, [], ◌∷◌, length, Option, Some, None, Result, Ok, inl, inr, refl, ap, ap₂, subst, ◌∙◌, arith}
use Rattle.std.specs.{List.{list_all}, Option.{option_map}, Prelude.{IfOk, ok_or}}
use Rattle.p25_line.specs.{Words.{is_printed, is_word}, LineReadings.{found_read, named_or_fault}, declared.fault.LineFault.{LineFault}, declared.fault.LineFault.TheVariants.{Key, Value}}
use Rattle.p25_line.specs.Values.{three_digits}
use Rattle.p25_line.proofs.{LineReadLaws.{WordLaws, line_read-facts, line_read-words, words-line_read}, WordsLaws.{digits-printed, named-word}}
use Rattle.p25_voice_units.specs.{declared.unit.VoiceUnit.{VoiceUnit}, declared.unit.VoiceUnit.TheVariants.{Header}}
use Rattle.p25_packet_blocks.specs.{declared.packet.Packet.{Packet as BlockPacket}, declared.packet.Packet.TheVariants.{Confirmed as ConfirmedPacket, Plain as PlainPacket}, Sendable.{IsSendable}}
use Rattle.p25_units.specs.{UnitParts.{UnitParts}, declared.unit.Body.{Body}, declared.unit.Body.TheVariants.{Voice, Packet}, Units.{IsSendableBody, IsSendableUnit}}
use Rattle.p25_text.specs.Grammar.{body_in, body_values, keyed, kind_of, read_kind, read_line_of, read_values, read_words, text_of, unit_from, unit_in, unit_words, values_behind, values_of}
use Rattle.p25_text.specs.{Names.{kind_named, kind_word, kinds, keys_of}, Packets.{confirmed_in, packet_kind, packet_values, plain_in}, Values.{nac_in}, Voices.{voice_in, voice_kind, voice_values}}
use Rattle.p25_text.specs.{declared.names.UnitKind.{UnitKind}, declared.names.UnitKind.TheVariants.{Hdu, Ldu1, Ldu2, Tdu, Tdulc, Confirmed, Plain, Response}}
use Rattle.p25_text.proofs.OptionLaws.{option_map-found}
use Rattle.p25_text.proofs.PacketLaws.{IsPacketRead, confirmed_in-values, packet-count, packet-printed, packet-short, plain_in-values, plain_kind, values-confirmed_in, values-plain_in}
use Rattle.p25_text.proofs.ValueLaws.{length-three_digits, nac_in-text, nac_in-three_digits, printed-three_digits}
use Rattle.p25_text.proofs.VoiceLaws.{values-voice_in, voice-count, voice-printed, voice-short, voice_in-values}
use Rattle.p25_text.proofs.WordLaws.{keyed-values_behind, keyed-words, length-join, size_of, size_of-keyed, values_behind-keyed}

-- ---- the proofs for each type, in the order of their table

-- a type is named by its word, and by no other
pub kind_named-word : (kind : UnitKind) → kind_named (kind_word kind) ≡ Some kind
kind_named-word Hdu = refl
kind_named-word kind = refl

pub word-kind_named : (word : List ℕ) (kind : UnitKind) → kind_named word ≡ Some kind → kind_word kind ≡ word
word-kind_named word kind found = named-word kind_word kinds word kind found

-- the word of a type is a word of at most nine octets
pub kind-word : (kind : UnitKind) → is_word (kind_word kind) ≡ true
kind-word Hdu = refl
kind-word kind = refl

kind-short : (kind : UnitKind) → length (kind_word kind) ≤ 9
kind-short Hdu = omega arith
kind-short kind = omega arith

keys-few : (kind : UnitKind) → length (keys_of kind) ≤ 6
keys-few Hdu = omega arith
keys-few kind = omega arith

-- there is a value for each key
body-count : (body : Body) → IsSendableBody body → length (keys_of (kind_of body)) ≡ suc (length (body_values body))
unfolding IsSendableBody
body-count (Voice unit) fits = ap suc (voice-count unit fits)
body-count (Packet packet) fits = ap suc (packet-count packet)

-- values are printed, and not too long for a line
body-printed : (body : Body) → IsSendableBody body → list_all (list_all is_printed) (body_values body) ≡ true
unfolding IsSendableBody
body-printed (Voice unit) fits = voice-printed unit fits
body-printed (Packet packet) fits = packet-printed packet fits

body-short : (body : Body) → IsSendableBody body → size_of (body_values body) ≤ 4620
unfolding IsSendableBody
body-short (Voice unit) fits = voice-short unit fits
body-short (Packet packet) fits = packet-short packet fits

-- the values of a body decode to it
body_in-voice : (unit : VoiceUnit) (values : List (List ℕ)) → body_in (voice_kind unit) values ≡ option_map Voice (voice_in (voice_kind unit) values)
body_in-voice (Header word) values = refl
body_in-voice unit values = refl

packet_in-values : (packet : BlockPacket) → IsSendable packet → body_in (packet_kind packet) (packet_values packet) ≡ Some (Packet packet)
unfolding IsSendable
packet_in-values (ConfirmedPacket packet) fits = ap (option_map Packet) (confirmed_in-values packet fits)
packet_in-values (PlainPacket packet) fits =
    let values = packet_values (PlainPacket packet) in
    elim fits.kind.format [
      | inl format ↦
          ap (λ f. body_in (plain_kind f) values) format
          ∙ ap (option_map Packet) (plain_in-values 0x15 packet format fits)
      | inr format ↦
          ap (λ f. body_in (plain_kind f) values) format
          ∙ ap (option_map Packet) (plain_in-values 0x03 packet format fits)
    ]

body_in-values : (body : Body) → IsSendableBody body → body_in (kind_of body) (body_values body) ≡ Some body
unfolding IsSendableBody
body_in-values (Voice unit) fits = body_in-voice unit (voice_values unit) ∙ ap (option_map Voice) (voice_in-values unit fits)
body_in-values (Packet packet) fits = packet_in-values packet fits

-- the values that decode to a body are its values
record IsReadAs (kind : UnitKind) (values : List (List ℕ)) (body : Body) : Type 0 where
  same_kind : kind_of body ≡ kind
  same_values : body_values body ≡ values
  fits : IsSendableBody body

-- a packet as the contents of a data unit
packet-read : (kind : UnitKind) (values : List (List ℕ)) (found : Option BlockPacket) (body : Body)
    → ((packet : BlockPacket) → found ≡ Some packet → IsPacketRead kind values packet) → option_map Packet found ≡ Some body → IsReadAs kind values body
unfolding IsSendableBody
packet-read kind values found body read same =
    let taken = option_map-found Packet found body same in
    let facts = read taken.0 taken.1 in
    subst (IsReadAs kind values) taken.2 (record { same_kind = facts.same_kind; same_values = facts.same_values; fits = facts.sendable })

-- a voice data unit as the contents of a data unit
voice-read : (kind : UnitKind) (values : List (List ℕ)) (body : Body) → option_map Voice (voice_in kind values) ≡ Some body → IsReadAs kind values body
unfolding IsSendableBody
voice-read kind values body same =
    let taken = option_map-found Voice (voice_in kind values) body same in
    let facts = values-voice_in kind values taken.0 taken.1 in
    subst (IsReadAs kind values) taken.2 (record { same_kind = facts.same_kind; same_values = facts.same_values; fits = facts.fits })

values-body_in : (kind : UnitKind) (values : List (List ℕ)) (body : Body) → body_in kind values ≡ Some body → IsReadAs kind values body
values-body_in Hdu values body found = voice-read Hdu values body found
values-body_in Ldu1 values body found = voice-read Ldu1 values body found
values-body_in Ldu2 values body found = voice-read Ldu2 values body found
values-body_in Tdu values body found = voice-read Tdu values body found
values-body_in Tdulc values body found = voice-read Tdulc values body found
values-body_in Confirmed (head ∷ blocks ∷ []) body found =
    packet-read Confirmed (head ∷ blocks ∷ []) (confirmed_in head blocks) body (λ packet same. values-confirmed_in head blocks packet same) found
values-body_in Plain (head ∷ octets ∷ []) body found =
    packet-read Plain (head ∷ octets ∷ []) (plain_in 0x15 head octets) body (λ packet same. values-plain_in 0x15 head octets packet (inl refl) same) found
values-body_in Response (head ∷ octets ∷ []) body found =
    packet-read Response (head ∷ octets ∷ []) (plain_in 0x03 head octets) body (λ packet same. values-plain_in 0x03 head octets packet (inr refl) same) found
values-body_in kind values body found = cc found

-- ---- the laws of all types

unit_words-words : (unit : UnitParts) → IsSendableUnit unit → list_all is_word (unit_words unit) ≡ true
unit_words-words unit fits =
    let digits = digits-printed (three_digits unit.nac) (printed-three_digits unit.nac (omega (arith, fits.nac_fits))) in
    ap₂ ◌&&◌ (kind-word (kind_of unit.body)) (keyed-words (keys_of (kind_of unit.body)) (values_of unit) (ap₂ ◌&&◌ digits (body-printed unit.body fits.body)))

-- the line of a data unit is not too long
pub length-text_of : (unit : UnitParts) → IsSendableUnit unit → length (text_of unit) ≤ 4700
unfolding text_of
length-text_of unit fits =
    let kind = kind_of unit.body in
    omega (arith, length-join 32 (unit_words unit), size_of-keyed (keys_of kind) (values_of unit), kind-short kind, keys-few kind, length-three_digits unit.nac, body-short unit.body fits.body)

-- the words of a data unit decode to it
read_words-unit_words : (unit : UnitParts) → IsSendableUnit unit → read_words (unit_words unit) ≡ Ok unit
read_words-unit_words unit fits =
    let kind = kind_of unit.body in
    let count : length (keys_of kind) ≡ length (values_of unit) = body-count unit.body fits.body in
    ap (λ named. named_or_fault read_kind named (keyed (keys_of kind) (values_of unit))) (kind_named-word kind)
    ∙ ap (λ values. found_read (read_values kind) (ok_or values Key)) (values_behind-keyed (keys_of kind) (values_of unit) count)
    ∙ ap (λ found. ok_or found Value) (ap₂ unit_from (nac_in-three_digits unit.nac (omega (arith, fits.nac_fits))) (body_in-values unit.body fits.body))

-- the values that decode to a data unit
from-parts : (kind : UnitKind) (nac_word : List ℕ) (values : List (List ℕ)) (nac : Option ℕ) (body : Option Body) (unit : UnitParts)
    → nac_in nac_word ≡ nac → body_in kind values ≡ body → unit_from nac body ≡ Some unit
    → (kind_of unit.body ≡ kind) × (values_of unit ≡ nac_word ∷ values) × IsSendableUnit unit
from-parts kind nac_word values (Some nac) (Some body) unit nac_found body_found made =
    let parts = nac_in-text nac_word nac nac_found in
    let read = values-body_in kind values body body_found in
    let same : record { nac = nac; body = body } ≡ unit = cc made in
    subst (λ (u : UnitParts). (kind_of u.body ≡ kind) × (values_of u ≡ nac_word ∷ values) × IsSendableUnit u) same
    (read.same_kind, ap₂ ◌∷◌ parts.0 read.same_values, record { nac_fits = omega (arith, parts.1); body = read.fits })
from-parts kind nac_word values nac body unit nac_found body_found made = cc made

from-values : (kind : UnitKind) (values : List (List ℕ)) (unit : UnitParts) → read_values kind values ≡ Ok unit
    → (kind_of unit.body ≡ kind) × (values_of unit ≡ values) × IsSendableUnit unit
from-values kind [] unit found = cc found
from-values kind (nac_word ∷ values) unit found = from-parts kind nac_word values (nac_in nac_word) (body_in kind values) unit refl refl (some-unit (unit_in kind (nac_word ∷ values)) found)
  where
    some-unit : (made : Option UnitParts) → ok_or made Value ≡ Ok unit → made ≡ Some unit
    some-unit (Some other) e = let same : other ≡ unit = cc e in ap Some same
    some-unit None e = cc e

from-keys : (kind : UnitKind) (words : List (List ℕ)) (values : Option (List (List ℕ))) (unit : UnitParts) → values_behind (keys_of kind) words ≡ values
    → found_read (read_values kind) (ok_or values Key) ≡ Ok unit → (kind_of unit.body ≡ kind) × (keyed (keys_of kind) (values_of unit) ≡ words) × IsSendableUnit unit
from-keys kind words None unit same found = cc found
from-keys kind words (Some values) unit same found =
    let read = from-values kind values unit found in
    (read.0, ap (keyed (keys_of kind)) read.1 ∙ (keyed-values_behind (keys_of kind) words values same).0, read.2)

from-kind : (first : List ℕ) (words : List (List ℕ)) (kind : Option UnitKind) (unit : UnitParts) → kind_named first ≡ kind
    → named_or_fault read_kind kind words ≡ Ok unit → (unit_words unit ≡ first ∷ words) × IsSendableUnit unit
from-kind first words None unit same found = cc found
from-kind first words (Some kind) unit same found =
    let read = from-keys kind words (values_behind (keys_of kind) words) unit refl found in
    (ap₂ ◌∷◌ (ap kind_word read.0 ∙ word-kind_named first kind same) (ap (λ k. keyed (keys_of k) (values_of unit)) read.0 ∙ read.1), read.2)

from-words : (words : List (List ℕ)) (unit : UnitParts) → read_words words ≡ Ok unit → (unit_words unit ≡ words) × IsSendableUnit unit
from-words [] unit found = cc found
from-words (first ∷ words) unit found = from-kind first words (kind_named first) unit refl found

-- ---- so lines and data units are inverse to each other

unit_laws : WordLaws unit_words read_words IsSendableUnit
unit_laws = record { some = λ unit. omega arith; are_words = unit_words-words; back = read_words-unit_words; again = from-words }

-- the line of a data unit decodes to it
pub read_line-text_of : (unit : UnitParts) → IsSendableUnit unit → read_line_of (text_of unit) ≡ Ok unit
unfolding read_line_of text_of
read_line-text_of unit fits = line_read-words unit_laws unit fits (omega (arith, length-text_of unit fits))

-- a line that is read is the line of its data unit
pub text_of-read_line : (line : List ℕ) (unit : UnitParts) → read_line_of line ≡ Ok unit → (text_of unit ≡ line) × IsSendableUnit unit
unfolding read_line_of text_of
text_of-read_line line unit found = let is = words-line_read unit_laws line unit found in (is.text, is.fits)

-- the two laws, as the reader returns them
pub read-facts : (line : List ℕ) (result : Result UnitParts LineFault) → result ≡ read_line_of line
    → (IfOk result (λ unit. text_of unit ≡ line)) × (IfOk result (λ unit. IsSendableUnit unit))
unfolding read_line_of text_of
read-facts line result same = line_read-facts unit_laws line result same
