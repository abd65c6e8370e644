-- The results that decoding writes to its buffers: a body by its voice data unit or its packet, a frame by its body, an item by its frame. By cases
-- of the outcome.
use Rattle.std.proofs.Common.{◌≡◌, ℕ, ◌≤◌, Bool, List, [], ◌∷◌, length, refl, sym, ◌∙◌, arith, ◌+◌, ◌*◌, drop, Result, Ok, Err, ap, length-drop, length-take}
use Rattle.p25_status.specs.{Outcomes.{IfRead, outcome_of, read_or}, declared.fields.Field.{Field}, declared.read_outcome.ReadOutcome.{ReadOutcome}}
use Rattle.p25_status.specs.declared.read_outcome.ReadOutcome.TheVariants.{Read, Failing}
use Rattle.p25_voice_units.specs.{Fixes.{AreFixes}, declared.unit.VoiceUnit.{VoiceUnit}}
use Rattle.p25_packet_blocks.specs.{declared.packet.Packet.{Packet as packet_type}, Fixes.{packet_fixes_of}, Reading.{packet_reading_of, header_bits, packet_of_head, read_head_of, HasItsLength}}
use Rattle.p25_packet_blocks.specs.{Whole.{packet_head}, declared.head.ReadHead.{ReadHead}, Heads.{head_blocks}, Image.{packet_image_of}, Lengths.{packet_bits}}
use Rattle.p25_packet_blocks.specs.Outcomes.{body_distance, failing_blocks_of, packet_failing, packet_outcome_of}
use Rattle.p25_units.specs.{UnitParts.{UnitParts}, Fixes.{body_fixes_of}, Readings.{packet_body_from, whole_from}, declared.unit.Body.TheVariants.{Packet, Voice}, declared.unit.Body.{Body}}
use Rattle.p25_units.proofs.FixesLaws.{body_fixes_of-packet, body_fixes_of-voice}
use Rattle.std.specs.{Prelude.{IfOk}, Bool.{beq}}
use Rattle.p25_bits.specs.Bits.{part}
use Rattle.p25_bits.proofs.DistanceLaws.{distance_by-le}
use Rattle.p25_packet_blocks.proofs.{OutcomeLaws.{head_reading_of-read}, ReadingLaws.{packet_reading_of-good, HasItsLength-head}}

-- the bit errors of a voice data unit are those of the body
pub voice-wrong : (outcome : ReadOutcome) (nac : ℕ) (voice : VoiceUnit) (bare : List Bool) → IfRead outcome (λ wrong. AreFixes voice bare wrong)
    → IfRead outcome (λ wrong. let unit : UnitParts = record { nac = nac; body = Voice voice } in wrong ≡ body_fixes_of unit bare)
voice-wrong (Read wrong) nac voice bare is = is.value nac ∙ sym (body_fixes_of-voice nac voice bare)
voice-wrong (Failing fields) nac voice bare is = tt

-- a data unit has the bits that its header requires
pub packet_long : (bare : List Bool) (read : ReadHead) → HasItsLength bare → read_head_of (header_bits bare) ≡ Ok read → 308 + 196 * head_blocks read.head ≤ length bare
packet_long bare read has is =
    let fits : packet_bits (head_blocks read.head) ≤ length bare = HasItsLength-head bare read.head has (head_reading_of-read bare read is) in
    omega (arith, fits)

-- the decoding of a packet is the body of the data unit
outcome_body : (packet other : packet_type) (fields : List Field) (wrong : ℕ) → packet ≡ other → read_or (outcome_of fields wrong) (Packet packet) ≡ whole_from other fields
unfolding outcome_of
outcome_body packet other [] wrong same = ap (λ p. Ok (Packet p)) same
outcome_body packet other (field ∷ fields) wrong same = refl

outcome_reading : (packet : packet_type) (reading : Result packet_type Field) (wrong : ℕ) → IfOk reading (λ other. packet ≡ other)
    → read_or (outcome_of (packet_failing reading) wrong) (Packet packet) ≡ packet_body_from reading
unfolding packet_failing outcome_of packet_body_from
outcome_reading packet (Err field) wrong same = refl
outcome_reading packet (Ok other) wrong same = outcome_body packet other (failing_blocks_of other) wrong same

pub packet_body-is : (read : ReadHead) (bare : List Bool) (packet : packet_type) (outcome : ReadOutcome) → read_head_of (header_bits bare) ≡ Ok read → outcome ≡ packet_outcome_of read bare
    → IfOk (packet_of_head read.head bare) (λ other. packet ≡ other) → read_or outcome (Packet packet) ≡ packet_body_from (packet_reading_of bare)
unfolding packet_outcome_of
packet_body-is read bare packet outcome head is same =
    ap (λ o. read_or o (Packet packet)) is
    ∙ outcome_reading packet (packet_of_head read.head bare) (read.wrong + body_distance read.head bare) same
    ∙ ap packet_body_from (sym (packet_reading_of-good bare read.head (head_reading_of-read bare read head)))

-- its bit errors are those of the body
pub packet_wrong-is : (bare : List Bool) (packet : packet_type) (unit : UnitParts) (outcome : ReadOutcome) → unit.body ≡ Packet packet
    → IfRead outcome (λ wrong. (nac : ℕ) → wrong ≡ packet_fixes_of nac packet bare)
    → IfRead outcome (λ wrong. wrong ≡ body_fixes_of unit bare)
unfolding packet_fixes_of
packet_wrong-is bare packet unit (Failing fields) is counted = tt
packet_wrong-is bare packet unit (Read wrong) is counted =
    let make : Body → UnitParts = λ b. record { nac = unit.nac; body = b } in
    counted unit.nac ∙ sym (body_fixes_of-packet unit.nac packet bare) ∙ ap (λ b. body_fixes_of (make b) bare) (sym is)

-- they are at most all bits
pub packet_wrong-le : (bare : List Bool) (packet : packet_type) (outcome : ReadOutcome) → IfRead outcome (λ wrong. (nac : ℕ) → wrong ≡ packet_fixes_of nac packet bare)
    → IfRead outcome (λ wrong. wrong ≤ length bare)
unfolding packet_fixes_of
packet_wrong-le bare packet (Failing fields) counted = tt
packet_wrong-le bare packet (Read wrong) counted =
    let count = 196 * (1 + head_blocks (packet_head packet)) in
    omega (arith, counted 0, distance_by-le beq (part 112 count bare) (part 112 count (packet_image_of 0 packet)), length-take count (drop 112 bare), length-drop 112 bare)

pub most-le : (outcome : ReadOutcome) (most : ℕ) → most ≤ 25200 → IfRead outcome (λ wrong. wrong ≤ most) → IfRead outcome (λ wrong. wrong ≤ 25200)
most-le (Read wrong) most short few = omega (arith, few, short)
most-le (Failing fields) most short few = tt
