-- The outcome of decoding a packet: the blocks that fail are those whose slots are `Bad`, and if none fails the number of bit errors is that of the
-- packet's fixes. By cases of the packet and of the format.
use Rattle.std.proofs.Common.{◌≡◌, ◌≢◌, ℕ, zero, suc, ◌+◌, ◌*◌, ◌<◌, ◌≤◌, inl, inr, Bool, List, [], ◌∷◌, ◌++◌, length, get_or, Result, Ok, Err, refl, ap, sym, ◌∙◌, arith, add-one}
use Rattle.std.proofs.lemmas.Bool.{cases_eq}
use Rattle.std.specs.Prelude.{IfOk}
use Rattle.p25_bits.proofs.NumbersLaws.{joined_below-zero, joined_below-suc}
use Rattle.p25_status.specs.{declared.fields.Field.{Field}, declared.read_outcome.ReadOutcome.TheVariants.{Failing}, Outcomes.{outcome_of, IfRead}}
use Rattle.p25_trellis.specs.{Nearest.{nearest_distance, half_octets}, Tables.{half_point}}
use Rattle.p25_trellis.proofs.NearestBlockLaws.{nearest_distance-le}
use Rattle.p25_packet_blocks.specs.{declared.head.PacketHead.{PacketHead}, declared.head.ReadHead.{ReadHead}, declared.block.Slot.{Slot}, declared.block.Slot.TheVariants.{Good, Bad}}
use Rattle.p25_packet_blocks.specs.{declared.packet.Packet.{Packet}, declared.packet.Packet.TheVariants.{Confirmed, Plain}, Heads.{confirmed_format, head_format, head_blocks}, Kinds.{IsPlainFormat}}
use Rattle.p25_packet_blocks.specs.{Whole.{IsWholePacket}, Fixes.{half_distance, three_quarter_distance, packet_fixes_of}}
use Rattle.p25_packet_blocks.specs.Outcomes.{failing_slot, failing_slots_of, failing_blocks_of, body_distance, packet_failing, packet_outcome_of}
use Rattle.p25_packet_blocks.specs.Reading.{header_bits, head_from, head_reading_of, counted_head, read_head_of, confirmed_by_parts, slots_read, packet_of_head}
use Rattle.p25_packet_blocks.proofs.{ReadingLaws.{head_reading_of-is, packet_of_head-confirmed}, FixesLaws.{body_distance-confirmed, body_distance-plain}, PacketFixesLaws.{packet_fixes-is}}

-- The header.

-- a decoded header is the header of the block, and its bit errors are the distance to the nearest block
pub record IsReadHead (block : List Bool) (read : ReadHead) : Type 0 where
  pub head : head_from (half_octets block) ≡ Ok read.head
  pub wrong : read.wrong ≡ nearest_distance 4 half_point block

counted-read : (block : List Bool) (wrong : ℕ) (reading : Result PacketHead Field) (read : ReadHead) → wrong ≡ nearest_distance 4 half_point block → head_from (half_octets block) ≡ reading
    → counted_head wrong reading ≡ Ok read → IsReadHead block read
unfolding counted_head
counted-read block wrong (Err field) read near is e = absurd (cc)
counted-read block wrong (Ok head) read near is e =
    let same : (record { head = head; wrong = wrong }) ≡ read = cc in
    rw (← same) (record { head = is; wrong = near })

pub IsReadHead-of : (block : List Bool) (read : ReadHead) → read_head_of block ≡ Ok read → IsReadHead block read
unfolding read_head_of
IsReadHead-of block read e = counted-read block (nearest_distance 4 half_point block) (head_from (half_octets block)) read refl refl e

pub read_head_of-few : (block : List Bool) (read : ReadHead) → read_head_of block ≡ Ok read → read.wrong ≤ 196
read_head_of-few block read e = omega (arith, (IsReadHead-of block read e).wrong, nearest_distance-le 4 2 half_point block (omega arith))

pub IfOk-few : (block : List Bool) (reading : Result ReadHead Field) → reading ≡ read_head_of block → IfOk reading (λ read. read.wrong ≤ 196)
IfOk-few block (Ok read) is = read_head_of-few block read (sym is)
IfOk-few block (Err field) is = tt

-- the decoding of a block, by the header that it holds
pub read_head_of-good : (block : List Bool) (head : PacketHead) → head_from (half_octets block) ≡ Ok head
    → read_head_of block ≡ Ok (record { head = head; wrong = nearest_distance 4 half_point block })
unfolding read_head_of counted_head
read_head_of-good block head is = rw is refl

pub read_head_of-bad : (block : List Bool) (field : Field) → head_from (half_octets block) ≡ Err field → read_head_of block ≡ Err field
unfolding read_head_of counted_head
read_head_of-bad block field is = rw is refl

-- the header alone
counted-head : (wrong : ℕ) (reading : Result PacketHead Field) (field : Field) → counted_head wrong reading ≡ Err field → reading ≡ Err field
unfolding counted_head
counted-head wrong (Ok head) field e = absurd (cc)
counted-head wrong (Err other) field e = cc

pub head_reading_of-read : (bare : List Bool) (read : ReadHead) → read_head_of (header_bits bare) ≡ Ok read → head_reading_of bare ≡ Ok read.head
head_reading_of-read bare read e = head_reading_of-is bare ∙ (IsReadHead-of (header_bits bare) read e).head

pub head_from-unread : (block : List Bool) (field : Field) → read_head_of block ≡ Err field → head_from (half_octets block) ≡ Err field
unfolding read_head_of
head_from-unread block field e = counted-head (nearest_distance 4 half_point block) (head_from (half_octets block)) field e

pub head_reading_of-unread : (bare : List Bool) (field : Field) → read_head_of (header_bits bare) ≡ Err field → head_reading_of bare ≡ Err field
head_reading_of-unread bare field e = head_reading_of-is bare ∙ head_from-unread (header_bits bare) field e

-- The fields that fail of a packet.

pub failing_slots_of-zero : (slots : List Slot) → failing_slots_of 0 slots ≡ []
unfolding failing_slots_of
failing_slots_of-zero slots = joined_below-zero (λ j. failing_slot j (get_or slots j Bad))

pub failing_slots_of-suc : (n : ℕ) (slots : List Slot) → failing_slots_of (suc n) slots ≡ failing_slots_of n slots ++ failing_slot n (get_or slots n Bad)
unfolding failing_slots_of
failing_slots_of-suc n slots = joined_below-suc n (λ j. failing_slot j (get_or slots j Bad))

pub failing_slots_of-more : (n : ℕ) (slots : List Slot) → failing_slots_of (n + 1) slots ≡ failing_slots_of n slots ++ failing_slot n (get_or slots n Bad)
failing_slots_of-more n slots = simp (add-one, failing_slots_of-suc)

no_fields : (xs ys : List Field) → xs ++ ys ≡ [] → (xs ≡ []) × (ys ≡ [])
no_fields [] ys none = (refl, none)
no_fields (x ∷ xs) ys none = absurd (cc)

bad_fails : (j : ℕ) (slot : Slot) → failing_slot j slot ≡ [] → slot ≢ Bad
bad_fails j (Good block) none = λ bad. absurd (cc)
bad_fails j Bad none = absurd (cc)

good_fails_not : (j : ℕ) (slot : Slot) → slot ≢ Bad → failing_slot j slot ≡ []
good_fails_not j (Good block) good = refl
good_fails_not j Bad good = absurd (good refl)

-- if none fails, no slot is `Bad`
none_bad : (n : ℕ) (slots : List Slot) → failing_slots_of n slots ≡ [] → (j : ℕ) → j < n → get_or slots j Bad ≢ Bad
none_bad zero slots none j inside = absurd (omega arith)
none_bad (suc n) slots none j inside =
    let two = no_fields (failing_slots_of n slots) (failing_slot n (get_or slots n Bad)) (rw (← failing_slots_of-suc, none)) in
    elim (cases_eq j n) [
      | inl last ↦ simp last (bad_fails n (get_or slots n Bad) two.1)
      | inr other ↦ none_bad n slots two.0 j (omega (arith, inside, other))
    ]

-- and conversely
none_fails : (n : ℕ) (slots : List Slot) → ((j : ℕ) → j < n → get_or slots j Bad ≢ Bad) → failing_slots_of n slots ≡ []
none_fails zero slots good = failing_slots_of-zero slots
none_fails (suc n) slots good =
    cc (failing_slots_of-suc n slots, none_fails n slots (λ j inside. good j (omega arith)), good_fails_not n (get_or slots n Bad) (good n (omega arith)))

pub IsWholePacket-none : (packet : Packet) → failing_blocks_of packet ≡ [] → IsWholePacket packet
unfolding failing_blocks_of IsWholePacket
IsWholePacket-none (Confirmed packet) none = record { at = none_bad (length packet.slots) packet.slots none }
IsWholePacket-none (Plain packet) none = tt

pub failing_blocks_of-none : (packet : Packet) → IsWholePacket packet → failing_blocks_of packet ≡ []
unfolding failing_blocks_of IsWholePacket
failing_blocks_of-none (Confirmed packet) whole = none_fails (length packet.slots) packet.slots whole.at
failing_blocks_of-none (Plain packet) whole = refl

-- The bit errors of the blocks, by the format.

pub confirmed-set : (head : PacketHead) (bare : List Bool) (slots : List Slot) (n : ℕ) → head_format head ≡ confirmed_format → n ≡ head_blocks head → slots ≡ slots_read n bare
    → Ok (confirmed_by_parts head slots) ≡ packet_of_head head bare
confirmed-set head bare slots n format counted read =
    simp (read, counted, packet_of_head-confirmed)

pub confirmed-wrong : (head : PacketHead) (bare : List Bool) (first wrong n : ℕ) → head_format head ≡ confirmed_format → n ≡ head_blocks head → wrong ≡ three_quarter_distance n bare
    → first + wrong ≡ first + body_distance head bare
confirmed-wrong head bare first wrong n format counted is =
    simp (is, counted, body_distance-confirmed)

pub IfOk-plain : (read : ReadHead) (bare : List Bool) → IsPlainFormat (head_format read.head) → (reading : Result ℕ Field)
    → IfOk reading (λ wrong. wrong ≡ read.wrong + half_distance (head_blocks read.head) bare)
    → IfOk reading (λ wrong. wrong ≡ read.wrong + body_distance read.head bare)
IfOk-plain read bare format (Ok wrong) counted = simp (counted, body_distance-plain)
IfOk-plain read bare format (Err field) counted = tt

-- The results.

-- the outcome by the decoding
pub packet_outcome-is : (read : ReadHead) (bare : List Bool) (reading : Result Packet Field) (wrong : ℕ) → reading ≡ packet_of_head read.head bare → wrong ≡ read.wrong + body_distance read.head bare
    → outcome_of (packet_failing reading) wrong ≡ packet_outcome_of read bare
unfolding packet_outcome_of
packet_outcome-is read bare reading wrong is counted = simp (is, counted)

pub packet_outcome-bad : (read : ReadHead) (bare : List Bool) (field : Field) → Err field ≡ packet_of_head read.head bare → Failing (field ∷ []) ≡ packet_outcome_of read bare
unfolding packet_outcome_of packet_failing outcome_of
packet_outcome-bad read bare field is = rw (sym is) refl

pub packet_outcome-good : (read : ReadHead) (bare : List Bool) (packet : Packet) (wrong : ℕ) → Ok packet ≡ packet_of_head read.head bare → wrong ≡ read.wrong + body_distance read.head bare
    → outcome_of (failing_blocks_of packet) wrong ≡ packet_outcome_of read bare
unfolding packet_failing
packet_outcome-good read bare packet wrong is counted = packet_outcome-is read bare (Ok packet) wrong is counted

-- the packet that was set is the one that was read
pub IfOk-same : (packet : Packet) (reading : Result Packet Field) → Ok packet ≡ reading → IfOk reading (λ other. packet ≡ other)
IfOk-same packet (Ok other) is = cc
IfOk-same packet (Err field) is = absurd (cc)

pub IfOk-none : (packet : Packet) (field : Field) (reading : Result Packet Field) → Err field ≡ reading → IfOk reading (λ other. packet ≡ other)
IfOk-none packet field (Ok other) is = absurd (cc)
IfOk-none packet field (Err other) is = tt

-- if no field fails, the bit errors are the packet's fixes
pub packet_outcome-fixes : (read : ReadHead) (bare : List Bool) (packet : Packet) (wrong : ℕ) (fields : List Field) → read_head_of (header_bits bare) ≡ Ok read
    → 308 + 196 * head_blocks read.head ≤ length bare
    → Ok packet ≡ packet_of_head read.head bare → wrong ≡ read.wrong + body_distance read.head bare → failing_blocks_of packet ≡ fields
    → IfRead (outcome_of fields wrong) (λ count. (nac : ℕ) → count ≡ packet_fixes_of nac packet bare)
unfolding outcome_of
packet_outcome-fixes read bare packet wrong (field ∷ fields) is there reads counted fail = tt
packet_outcome-fixes read bare packet wrong [] is there reads counted none = λ nac.
    counted
    ∙ ap (λ n. n + body_distance read.head bare) (IsReadHead-of (header_bits bare) read is).wrong
    ∙ packet_fixes-is nac read.head packet bare (head_reading_of-read bare read is) there (sym reads) (IsWholePacket-none packet none)
