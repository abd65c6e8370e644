-- The values of a packet decode to the packet, and values that decode to a packet are its values. By the steps of reading.
use Rattle.std.proofs.Common.{◌≡◌, ℕ, ◌+◌, ◌-◌, ◌*◌, ◌<◌, ◌≤◌, ◌==◌, ◌&&◌, Bool, true, false, cond, List, [], ◌∷◌, length, Some, None, inl, inr, refl, sym, ap, ap₂, subst, ◌∙◌, arith}
use Rattle.std.proofs.{lemmas.Bool.{cases_Bool, cond-true, eq-eqb, eqb-true}, lemmas.Slice.Eq.{bytes_eq-Decides}}
use Rattle.std.specs.{List.{list_all}, Option.{option_and_then, option_map}, Str.{bytes_eq}}
use Rattle.hex.specs.Hex.{encode_lower, lower_digits}
use Rattle.hex.proofs.HexLemmas.{length-encode_with}
use Rattle.p25_line.specs.{Words.{is_printed}, CommaLists.{counted, dash, list_in, list_text}, Octets.{octets_text}}
use Rattle.p25_line.proofs.{HexLaws.{list_all-encode_lower}, CommaListLaws.{AllFit, list_in-text, text-list_in}, WordsLaws.{digits-printed}}
use Rattle.p25_packet_blocks.specs.{declared.block.Slot.{Slot}, declared.head.PacketHead.{PacketHead}, declared.packet.Packet.{Packet}, declared.packet.Packet.TheVariants.{Confirmed, Plain}}
use Rattle.p25_packet_blocks.specs.{ConfirmedParts.{ConfirmedParts}, Parts.{PlainParts}, Heads.{head_blocks, head_format}, Kinds.{IsPlainFormat}}
use Rattle.p25_packet_blocks.specs.Sendable.{IsHead, IsSendable, IsSendableConfirmed, IsSendablePlain}
use Rattle.p25_packet_blocks.proofs.HeadLaws.{head_blocks-lt}
use Rattle.p25_text.specs.{Names.{other_keys}, Packets.{confirmed_from, confirmed_in, confirmed_of, head_in, packet_kind, packet_values, plain_from, plain_in, plain_of, slot_in, slot_text}}
use Rattle.p25_text.specs.{Values.{octets_in, octets_or_none}, declared.names.UnitKind.{UnitKind}}
use Rattle.p25_text.specs.declared.names.UnitKind.TheVariants.{Confirmed as ConfirmedKind, Plain as PlainKind, Response as ResponseKind}
use Rattle.p25_text.proofs.OptionLaws.{cond-found, counted-found, option_and_then-found, option_map-found}
use Rattle.p25_text.proofs.PacketValueLaws.{IsGoodSlot, AllFit-slots, slots-AllFit, slots-printed, slots-size, slot_laws}
use Rattle.p25_text.proofs.{ValueLaws.{octets_in-encode_lower, octets_in-text, octets_or_none-text, text-octets_or_none}, WordLaws.{size_of}}

-- ---- headers

head_in-text : (head : PacketHead) → IsHead head → head_in (encode_lower head.0) ≡ Some head
head_in-text head fits = ap (option_map (λ octets. record { 0 = octets })) (octets_in-encode_lower 10 head.0 fits.small fits.long)

text-head_in : (word : List ℕ) (head : PacketHead) → head_in word ≡ Some head → (encode_lower head.0 ≡ word) × IsHead head
text-head_in word head found =
    let make : List ℕ → PacketHead = λ octets. record { 0 = octets } in
    let taken = option_map-found make (octets_in 10 word) head found in
    let facts = octets_in-text 10 word taken.0 taken.1 in
    subst (λ (h : PacketHead). (encode_lower h.0 ≡ word) × IsHead h) taken.2 (facts.0, record { long = facts.2; small = facts.1 })

-- ---- confirmed packets

slots_in-text : (slots : List Slot) → AllFit IsGoodSlot slots → list_in slot_in (list_text slot_text slots) ≡ Some slots
slots_in-text slots good = list_in-text slot_laws slots good (not_dash slots good)
  where
    not_dash : (l : List Slot) → AllFit IsGoodSlot l → 0 < length l → bytes_eq (list_text slot_text l) dash ≡ false
    not_dash l fits some = elim (cases_Bool (bytes_eq (list_text slot_text l) dash)) [
      | inl same ↦ let long = slots-size l fits in let one = ap length ((bytes_eq-Decides (list_text slot_text l) dash).0 same) in absurd (omega (arith, long.0 some, one))
      | inr other ↦ other
    ]

pub confirmed_in-values : (packet : ConfirmedParts) → IsSendableConfirmed packet
    → confirmed_in (encode_lower packet.head.0) (list_text slot_text packet.slots) ≡ Some (Confirmed packet)
confirmed_in-values packet fits =
    let word = list_text slot_text packet.slots in
    let count = head_blocks packet.head in
    let good = AllFit-slots packet.slots count fits.good fits.kind.count in
    ap (option_and_then (confirmed_from word)) (head_in-text packet.head fits.head)
    ∙ cond-true (head_format packet.head == 0x16) (option_map (confirmed_of packet.head) (counted count (list_in slot_in word))) None (eq-eqb (head_format packet.head) 0x16 fits.kind.format)
    ∙ ap (λ l. option_map (confirmed_of packet.head) (counted count l)) (slots_in-text packet.slots good)
    ∙ ap (option_map (confirmed_of packet.head)) (cond-true (length packet.slots == count) (Some packet.slots) None (eq-eqb (length packet.slots) count fits.kind.count))

-- the values that decode to a packet
pub record IsPacketRead (kind : UnitKind) (values : List (List ℕ)) (packet : Packet) : Type 0 where
  pub same_kind : packet_kind packet ≡ kind
  pub same_values : packet_values packet ≡ values
  pub sendable : IsSendable packet

pub values-confirmed_in : (head blocks : List ℕ) (packet : Packet) → confirmed_in head blocks ≡ Some packet → IsPacketRead ConfirmedKind (head ∷ blocks ∷ []) packet
unfolding IsSendable
values-confirmed_in head blocks packet found =
    let first = option_and_then-found (confirmed_from blocks) (head_in head) packet found in
    let header = first.0 in
    let count = head_blocks header in
    let facts = text-head_in head header first.1 in
    let second = cond-found (head_format header == 0x16) (option_map (confirmed_of header) (counted count (list_in slot_in blocks))) packet first.2 in
    let third = option_map-found (confirmed_of header) (counted count (list_in slot_in blocks)) packet second.1 in
    let fourth = counted-found count (list_in slot_in blocks) third.0 third.1 in
    let slots = text-list_in slot_laws blocks third.0 fourth.0 in
    subst (IsPacketRead ConfirmedKind (head ∷ blocks ∷ [])) third.2 (record {
      same_kind = refl;
      same_values = ap₂ (λ a b. a ∷ b ∷ []) facts.0 slots.0;
      sendable = record {
        kind = record { format = eqb-true (head_format header) 0x16 second.0; count = fourth.1 };
        head = facts.1;
        good = slots-AllFit third.0 count slots.1 fourth.1;
      };
    })

-- ---- other packets

pub plain_in-values : (format : ℕ) (packet : PlainParts) → head_format packet.head ≡ format → IsSendablePlain packet
    → plain_in format (encode_lower packet.head.0) (octets_text packet.octets) ≡ Some (Plain packet)
plain_in-values format packet same fits =
    let word = octets_text packet.octets in
    let count = 12 * head_blocks packet.head - 4 in
    ap (option_and_then (plain_from format word)) (head_in-text packet.head fits.head)
    ∙ cond-true (head_format packet.head == format) (option_map (plain_of packet.head) (octets_or_none count word)) None (eq-eqb (head_format packet.head) format same)
    ∙ ap (option_map (plain_of packet.head)) (octets_or_none-text count packet.octets fits.small fits.kind.count)

-- the type of a packet that is not confirmed, by its format
abbrev pub plain_kind : ℕ → UnitKind
plain_kind format = cond (format == 0x03) ResponseKind PlainKind

pub values-plain_in : (format : ℕ) (head octets : List ℕ) (packet : Packet) → IsPlainFormat format → plain_in format head octets ≡ Some packet
    → IsPacketRead (plain_kind format) (head ∷ octets ∷ []) packet
unfolding IsSendable
values-plain_in format head octets packet allowed found =
    let first = option_and_then-found (plain_from format octets) (head_in head) packet found in
    let header = first.0 in
    let count = 12 * head_blocks header - 4 in
    let facts = text-head_in head header first.1 in
    let second = cond-found (head_format header == format) (option_map (plain_of header) (octets_or_none count octets)) packet first.2 in
    let third = option_map-found (plain_of header) (octets_or_none count octets) packet second.1 in
    let carried = text-octets_or_none count octets third.0 third.1 in
    let same : head_format header ≡ format = eqb-true (head_format header) format second.0 in
    subst (IsPacketRead (plain_kind format) (head ∷ octets ∷ [])) third.2 (record {
      same_kind = ap plain_kind same;
      same_values = ap₂ (λ a b. a ∷ b ∷ []) facts.0 carried.0;
      sendable = record {
        kind = record { format = subst IsPlainFormat (sym same) allowed; count = carried.2 };
        head = facts.1;
        small = carried.1;
      };
    })

-- ---- all packets

-- there is a value for each key
pub packet-count : (packet : Packet) → length (other_keys (packet_kind packet)) ≡ length (packet_values packet)
packet-count (Confirmed packet) = refl
packet-count (Plain packet) = two_keys (head_format packet.head == 0x03)
  where
    two_keys : (response : Bool) → length (other_keys (cond response ResponseKind PlainKind)) ≡ 2
    two_keys true = refl
    two_keys false = refl

head-printed : (head : PacketHead) → IsHead head → list_all is_printed (encode_lower head.0) ≡ true
head-printed head fits = digits-printed (encode_lower head.0) (list_all-encode_lower head.0 fits.small)

octets-printed : (octets : List ℕ) → list_all is_printed (encode_lower octets) ≡ true → list_all is_printed (octets_text octets) ≡ true
octets-printed [] printed = refl
octets-printed (octet ∷ octets) printed = printed

-- values are printed
pub packet-printed : (packet : Packet) → IsSendable packet → list_all (list_all is_printed) (packet_values packet) ≡ true
unfolding IsSendable
packet-printed (Confirmed packet) fits =
    ap₂ ◌&&◌ (head-printed packet.head fits.head) (ap (λ b. b && true) (slots-printed packet.slots (AllFit-slots packet.slots (head_blocks packet.head) fits.good fits.kind.count)))
packet-printed (Plain packet) fits =
    ap₂ ◌&&◌ (head-printed packet.head fits.head) (ap (λ b. b && true) (octets-printed packet.octets (digits-printed (encode_lower packet.octets) (list_all-encode_lower packet.octets fits.small))))

head-size : (head : PacketHead) → IsHead head → length (encode_lower head.0) ≡ 20
head-size head fits = omega (arith, length-encode_with lower_digits head.0, fits.long)

octets-size : (octets : List ℕ) → length (octets_text octets) ≤ 2 * length octets + 1
octets-size [] = omega arith
octets-size (octet ∷ octets) = omega (arith, length-encode_with lower_digits (octet ∷ octets))

-- they are not too long for a line
pub packet-short : (packet : Packet) → IsSendable packet → size_of (packet_values packet) ≤ 4620
unfolding IsSendable
packet-short (Confirmed packet) fits =
    let size = slots-size packet.slots (AllFit-slots packet.slots (head_blocks packet.head) fits.good fits.kind.count) in
    omega (arith, head-size packet.head fits.head, size.1, fits.kind.count, head_blocks-lt packet.head)
packet-short (Plain packet) fits = omega (arith, head-size packet.head fits.head, octets-size packet.octets, fits.kind.count, head_blocks-lt packet.head)
