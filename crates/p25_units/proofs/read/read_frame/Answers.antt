use Rattle.std.proofs.{Common.{ℕ, ◌≡◌, ◌*◌, ◌/◌, ◌≤◌, Bool, List, ap, sym, ◌∙◌, subst, arith, drop, length, length-drop}, lemmas.List.{length-take-le}}
use Rattle.p25_bits.specs.Bits.{part}
use Rattle.p25_status.specs.{Outcomes.{IfRead}, Woven.{bare_of}}
use Rattle.p25_status.proofs.WovenLaws.{length-bare_of}
use Rattle.p25_unit_front.proofs.FrontLaws.{front_fixes_of-le}
use Rattle.p25_packet_blocks.specs.Reading.{header_bits, read_head_of, HasItsLength}
use Rattle.p25_units.specs.{Fixes.{body_fixes_of}, Needs.{kind_need}, Readings.{body_reading_of}, declared.needs.Need.TheVariants.{Length}}
use Rattle.p25_units.proofs.{OutcomeLaws.{most-le}, PacketItemLaws.{frame_outcome, frame_wrong}, ReadingsLaws.{body_reading_of-packet, body_reading_of-voice}}
use Rattle.p25_units.proofs.UnitPlaceLaws.{IsCountAt-kind, IsPacketAt, IsPacketAt-kind, voice_long}
use Rattle.p25_units.proofs.read.read_frame.Goals as goal

-- the bits of a data unit without status symbols
bare_long : (duid : ℕ) (bits bare : List Bool) (at count : ℕ) → at ≤ length bits → kind_need duid (drop at bits) ≡ Length count → bare ≡ bare_of (part at count bits) → length bare ≡ 70 * (count / 72)
bare_long duid bits bare at count inside kind is =
    let counted = IsCountAt-kind duid bits at count inside kind in
    let long : length (part at count bits) ≡ 72 * (count / 72) = length-take-le count (drop at bits) (omega (arith, counted.there, length-drop at bits)) ∙ omega (arith, counted.whole) in
    ap length is ∙ length-bare_of (count / 72) (part at count bits) long

-- the body of a packet, if its DUID was decoded
packet_at : (duid : ℕ) (bits : List Bool) (at count : ℕ) → duid ≡ 0xC → at ≤ length bits → kind_need duid (drop at bits) ≡ Length count → IsPacketAt bits at count
packet_at duid bits at count packet inside kind = IsPacketAt-kind bits at count inside (ap (λ d. kind_need d (drop at bits)) (sym packet) ∙ kind)

pub unweave-requires-clause-blocks : goal.unweave-requires-clause-blocks
unweave-requires-clause-blocks c = (IsCountAt-kind c.args.read.now.nid.duid c.args.bits.now c.args.at c.args.count c.requires.there c.requires.kind).whole

pub unweave-requires-clause-most : goal.unweave-requires-clause-most
unweave-requires-clause-most c = (IsCountAt-kind c.args.read.now.nid.duid c.args.bits.now c.args.at c.args.count c.requires.there c.requires.kind).most

pub unweave-requires-clause-there : goal.unweave-requires-clause-there
unweave-requires-clause-there c = (IsCountAt-kind c.args.read.now.nid.duid c.args.bits.now c.args.at c.args.count c.requires.there c.requires.kind).there

pub read_voice-requires : goal.read_voice-requires
read_voice-requires c =
    let duid = c.args.read.now.nid.duid in
    let counted = IsCountAt-kind duid c.args.bits.now c.args.at c.args.count c.requires.there c.requires.kind in
    let whole : 72 * (c.args.count / 72) ≡ c.args.count = omega (arith, counted.whole) in
    voice_long duid c.args.bits.now c.args.at c.args.count c.unweave.new.out c.if-read-ne-PDU.true c.requires.kind whole
    (bare_long duid c.args.bits.now c.unweave.new.out c.args.at c.args.count c.requires.there c.requires.kind c.unweave.ensures.bare) counted.there

pub with_front-requires-clause-few : goal.with_front-requires-clause-few
with_front-requires-clause-few c = most-le c.read_voice.result 864 (omega arith) c.read_voice.ensures.most

pub with_front-requires-clause-front : goal.with_front-requires-clause-front
with_front-requires-clause-front c = omega (arith, c.requires.front, front_fixes_of-le (c.args.read.now.nid.nac, c.args.read.now.nid.duid) (drop c.args.at c.args.bits.now))

pub returns-then-read-ne-PDU-clause-frame : goal.returns-then-read-ne-PDU-clause-frame
returns-then-read-ne-PDU-clause-frame c =
    let nid = c.args.read.now.nid in
    frame_outcome c.args.read.now.wrong c.read_voice.result c.with_front.result (record { read = c.with_front.ensures.read; failing = c.with_front.ensures.failing }) nid.nac nid.duid
    (part c.args.at c.args.count c.args.bits.now) c.read_voice.new.self c.unweave.new.statuses c.read_voice.ensures.nac c.unweave.ensures.statuses
    (c.read_voice.ensures.body ∙ sym (body_reading_of-voice nid.duid c.unweave.new.out c.if-read-ne-PDU.true) ∙ ap (body_reading_of nid.duid) c.unweave.ensures.bare)

pub returns-then-read-ne-PDU-clause-wrong : goal.returns-then-read-ne-PDU-clause-wrong
returns-then-read-ne-PDU-clause-wrong c =
    let nid = c.args.read.now.nid in
    frame_wrong c.args.read.now.wrong c.read_voice.result c.with_front.result (record { read = c.with_front.ensures.read; failing = c.with_front.ensures.failing }) nid.nac nid.duid
    c.args.bits.now c.args.at c.args.count c.read_voice.new.self c.unweave.new.statuses c.requires.there c.requires.kind nid.nac_fits c.read_voice.ensures.nac c.unweave.ensures.statuses
    (c.read_voice.ensures.body ∙ sym (body_reading_of-voice nid.duid c.unweave.new.out c.if-read-ne-PDU.true) ∙ ap (body_reading_of nid.duid) c.unweave.ensures.bare) c.requires.front
    (subst (λ (bare : List Bool). IfRead c.read_voice.result (λ wrong. wrong ≡ body_fixes_of c.read_voice.new.self bare)) c.unweave.ensures.bare c.read_voice.ensures.wrong)

pub read_head-requires-clause-there : goal.read_head-requires-clause-there
read_head-requires-clause-there c = (packet_at c.args.read.now.nid.duid c.args.bits.now c.args.at c.args.count c.if-read-ne-PDU.false c.requires.there c.requires.kind).there

pub read_packet-requires-clause-head : goal.read_packet-requires-clause-head
read_packet-requires-clause-head c =
    ap (λ (xs : List Bool). read_head_of (header_bits xs)) c.unweave.ensures.bare
    ∙ sym (c.in-Ok.ensures.value ∙ (packet_at c.args.read.now.nid.duid c.args.bits.now c.args.at c.args.count c.if-read-ne-PDU.false c.requires.there c.requires.kind).head)

pub unreachable-requires : goal.unreachable-requires
unreachable-requires c = (packet_at c.args.read.now.nid.duid c.args.bits.now c.args.at c.args.count c.if-read-ne-PDU.false c.requires.there c.requires.kind).some _ (sym c.in-Err.ensures.value)

pub read_packet-requires-clause-there : goal.read_packet-requires-clause-there
read_packet-requires-clause-there c =
    subst HasItsLength (sym c.unweave.ensures.bare) (packet_at c.args.read.now.nid.duid c.args.bits.now c.args.at c.args.count c.if-read-ne-PDU.false c.requires.there c.requires.kind).has

pub with_front-requires-in-Ok-clause-few : goal.with_front-requires-in-Ok-clause-few
with_front-requires-in-Ok-clause-few c =
    let duid = c.args.read.now.nid.duid in
    let counted = IsCountAt-kind duid c.args.bits.now c.args.at c.args.count c.requires.there c.requires.kind in
    let short : length c.unweave.new.out ≤ 25200
    = omega (arith, counted.most, bare_long duid c.args.bits.now c.unweave.new.out c.args.at c.args.count c.requires.there c.requires.kind c.unweave.ensures.bare) in
    most-le c.read_packet.result (length c.unweave.new.out) short c.read_packet.ensures.few

pub with_front-requires-in-Ok-clause-front : goal.with_front-requires-in-Ok-clause-front
with_front-requires-in-Ok-clause-front c = omega (arith, c.requires.front, front_fixes_of-le (c.args.read.now.nid.nac, c.args.read.now.nid.duid) (drop c.args.at c.args.bits.now))

read_of_packet : (duid : ℕ) (bare : List Bool) → duid ≡ 0xC → body_reading_of 0xC bare ≡ body_reading_of duid bare
read_of_packet duid bare packet = ap (λ d. body_reading_of d bare) (sym packet)

pub returns-clause-frame : goal.returns-clause-frame
returns-clause-frame c =
    let nid = c.args.read.now.nid in
    frame_outcome c.args.read.now.wrong c.read_packet.result c.with_front-in-Ok.result (record { read = c.with_front-in-Ok.ensures.read; failing = c.with_front-in-Ok.ensures.failing }) nid.nac
    nid.duid (part c.args.at c.args.count c.args.bits.now) c.read_packet.new.self c.unweave.new.statuses c.read_packet.ensures.nac c.unweave.ensures.statuses
    (c.read_packet.ensures.body ∙ sym (body_reading_of-packet c.unweave.new.out) ∙ read_of_packet nid.duid c.unweave.new.out c.if-read-ne-PDU.false
    ∙ ap (body_reading_of nid.duid) c.unweave.ensures.bare)

pub returns-clause-wrong : goal.returns-clause-wrong
returns-clause-wrong c =
    let nid = c.args.read.now.nid in
    frame_wrong c.args.read.now.wrong c.read_packet.result c.with_front-in-Ok.result (record { read = c.with_front-in-Ok.ensures.read; failing = c.with_front-in-Ok.ensures.failing }) nid.nac nid.duid
    c.args.bits.now c.args.at c.args.count c.read_packet.new.self c.unweave.new.statuses c.requires.there c.requires.kind nid.nac_fits c.read_packet.ensures.nac c.unweave.ensures.statuses
    (c.read_packet.ensures.body ∙ sym (body_reading_of-packet c.unweave.new.out) ∙ read_of_packet nid.duid c.unweave.new.out c.if-read-ne-PDU.false
    ∙ ap (body_reading_of nid.duid) c.unweave.ensures.bare) c.requires.front
    (subst (λ (bare : List Bool). IfRead c.read_packet.result (λ wrong. wrong ≡ body_fixes_of c.read_packet.new.self bare)) c.unweave.ensures.bare c.read_packet.ensures.wrong)
