use Rattle.std.proofs.Common.{◌≡◌, ◌-◌, ◌≤◌, ℕ, Bool, List, Some, None, true, ap, ap₂, sym, ◌∙◌, arith, drop, length, length-drop}
use Rattle.p25_status.specs.Sync.{has_sync}
use Rattle.p25_unit_front.specs.Front.{identifier_of}
use Rattle.p25_packet_blocks.proofs.UnitLaws.{sent_head_of-read, sent_head_of-unread}
use Rattle.p25_units.specs.{Needs.{head_need, kind_need, length_need, need_of, packet_need, voice_need}, Units.{sent_length}}
use Rattle.p25_units.proofs.NeedsLaws.{head_need-bad, head_need-good, identified_need-none, identified_need-some, kind_need-packet, kind_need-unpacked, need_of-synced, packet_need-long, packet_need-short, synced_need-read, synced_need-short, voice_need-none, voice_need-some}
use Rattle.p25_units.proofs.UnitsLaws.{IsSentLength-voice}
use Rattle.p25_units.proofs.scan.need_synced.Goals as goal

-- if the identifier was decoded, the need is that of the data unit of its DUID
need_of-read : (rest : List Bool) (nac duid : ℕ) → has_sync rest ≡ true → 114 ≤ length rest → identifier_of rest ≡ Some (nac, duid) → need_of rest ≡ kind_need duid rest
need_of-read rest nac duid synced long read = need_of-synced rest synced ∙ synced_need-read rest (Some (nac, duid)) long read ∙ identified_need-some (nac, duid) rest

pub returns-then-len-at-lt-SENT_FRONT_LENGTH-clause-need : goal.returns-then-len-at-lt-SENT_FRONT_LENGTH-clause-need
returns-then-len-at-lt-SENT_FRONT_LENGTH-clause-need c =
    let rest = drop c.args.at c.args.bits.now in
    sym (need_of-synced rest c.requires.synced ∙ synced_need-short rest (omega (arith, length-drop c.args.at c.args.bits.now)))

pub returns-in_default-clause-need : goal.returns-in_default-clause-need
returns-in_default-clause-need c =
    let rest = drop c.args.at c.args.bits.now in
    sym (need_of-synced rest c.requires.synced ∙ synced_need-read rest None (omega (arith, length-drop c.args.at c.args.bits.now)) (sym c.in_default.ensures.value) ∙ identified_need-none rest)

pub overflow_mul-bare : goal.overflow_mul-bare
overflow_mul-bare c = let is = IsSentLength-voice c.in-Some.read.nid.duid c.in-Some-voice_length.bare (sym c.in-Some-voice_length.ensures) in omega (arith, is.sent, is.most)

pub returns-in-None-clause-need : goal.returns-in-None-clause-need
returns-in-None-clause-need c =
    let rest = drop c.args.at c.args.bits.now in
    let nid = c.in-Some.read.nid in
    sym (voice_need-none (length rest)) ∙ ap (λ found. voice_need found (length rest)) c.in-None.ensures ∙ sym (kind_need-unpacked nid.duid rest c.if-read-ne-PDU.true)
    ∙ sym (need_of-read rest nid.nac nid.duid c.requires.synced (omega (arith, length-drop c.args.at c.args.bits.now)) (sym c.in-Some.ensures.value))

pub returns-in-Some-voice_length-clause-need : goal.returns-in-Some-voice_length-clause-need
returns-in-Some-voice_length-clause-need c =
    let rest = drop c.args.at c.args.bits.now in
    let nid = c.in-Some.read.nid in
    let bare = c.in-Some-voice_length.bare in
    let have : c.len-2.result - c.args.at ≡ length rest = omega (arith, c.len-2.ensures.value, length-drop c.args.at c.args.bits.now) in
    c.need_of_length.ensures
    ∙ ap (length_need (sent_length bare)) have
    ∙ sym (voice_need-some bare (length rest))
    ∙ ap (λ found. voice_need found (length rest)) c.in-Some-voice_length.ensures
    ∙ sym (kind_need-unpacked nid.duid rest c.if-read-ne-PDU.true)
    ∙ sym (need_of-read rest nid.nac nid.duid c.requires.synced (omega (arith, length-drop c.args.at c.args.bits.now)) (sym c.in-Some.ensures.value))

-- the need of a packet, if its identifier was decoded
packet-is : (rest : List Bool) (nac duid : ℕ) → has_sync rest ≡ true → 114 ≤ length rest → identifier_of rest ≡ Some (nac, duid) → duid ≡ 0xC → packet_need rest ≡ need_of rest
packet-is rest nac duid synced long read packet =
    sym (kind_need-packet rest) ∙ ap (λ d. kind_need d rest) (sym packet) ∙ sym (need_of-read rest nac duid synced long read)

pub returns-then-have-lt-HEADED-clause-need : goal.returns-then-have-lt-HEADED-clause-need
returns-then-have-lt-HEADED-clause-need c =
    let rest = drop c.args.at c.args.bits.now in
    let nid = c.in-Some.read.nid in
    sym (packet_need-short rest (omega (arith, length-drop c.args.at c.args.bits.now)))
    ∙ packet-is rest nid.nac nid.duid c.requires.synced (omega (arith, length-drop c.args.at c.args.bits.now)) (sym c.in-Some.ensures.value) c.if-read-ne-PDU.false

pub returns-in-Err-clause-need : goal.returns-in-Err-clause-need
returns-in-Err-clause-need c =
    let rest = drop c.args.at c.args.bits.now in
    let nid = c.in-Some.read.nid in
    sym (packet_need-long rest (omega (arith, length-drop c.args.at c.args.bits.now))
    ∙ ap (λ reading. head_need reading (length rest)) (sent_head_of-unread rest c.in-Err.field (sym c.in-Err.ensures.value)) ∙ head_need-bad c.in-Err.field (length rest))
    ∙ packet-is rest nid.nac nid.duid c.requires.synced (omega (arith, length-drop c.args.at c.args.bits.now)) (sym c.in-Some.ensures.value) c.if-read-ne-PDU.false

pub returns-in-Ok-clause-need : goal.returns-in-Ok-clause-need
returns-in-Ok-clause-need c =
    let rest = drop c.args.at c.args.bits.now in
    let nid = c.in-Some.read.nid in
    let have : c.len-2.result - c.args.at ≡ length rest = omega (arith, c.len-2.ensures.value, length-drop c.args.at c.args.bits.now) in
    c.need_of_length-in-Ok.ensures
    ∙ ap₂ length_need c.packet_length.ensures.value have
    ∙ sym (packet_need-long rest (omega (arith, length-drop c.args.at c.args.bits.now))
    ∙ ap (λ reading. head_need reading (length rest)) (sent_head_of-read rest c.in-Ok.read (sym c.in-Ok.ensures.value)) ∙ head_need-good c.in-Ok.read.head (length rest))
    ∙ packet-is rest nid.nac nid.duid c.requires.synced (omega (arith, length-drop c.args.at c.args.bits.now)) (sym c.in-Some.ensures.value) c.if-read-ne-PDU.false
