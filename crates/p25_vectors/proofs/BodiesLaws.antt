-- The contents of data units, from the parts that were drawn one after the other: the states between them add up.
use Rattle.std.proofs.Common.{◌≡◌, ℕ, ◌+◌, ◌-◌, ◌*◌, ◌<◌, ◌≢◌, true, List, [], ◌∷◌, ◌++◌, length, get_or, ap, ◌∙◌, arith}
use Rattle.p25_bits.proofs.NumbersLaws.{length-each_below, each_below-more, each_below-zero, get_or-each_below}
use Rattle.p25_link.specs.{declared.link_control.LinkControl.{LinkControl}, declared.encryption.EncryptionSync.{EncryptionSync}}
use Rattle.p25_voice_units.specs.{declared.voice.VoiceFrame.{VoiceFrame}, declared.unit.VoiceUnit.TheVariants.{Link1 as ldu1_unit, Link2 as ldu2_unit}}
use Rattle.p25_packet_blocks.specs.{ConfirmedParts.{ConfirmedParts}, Parts.{PlainParts}, Heads.{confirmed_head, plain_head, response_head}, Whole.{AreGood, IsWholePacket}}
use Rattle.p25_packet_blocks.specs.{declared.head.PacketHead.{PacketHead}, declared.block.Slot.{Slot}, declared.block.Slot.TheVariants.{Bad}}
use Rattle.p25_packet_blocks.specs.declared.packet.Packet.TheVariants.{Confirmed as confirmed_packet, Plain as plain_packet}
use Rattle.p25_units.specs.{Units.{IsWholeBody}, declared.unit.Body.TheVariants.{Voice, Packet}}
use Rattle.p25_vectors.specs.{Draws.{state_after, octets_drawn}, Bodies.{link_of, sync_of, voice_frame_of, voice_drawn, llid_drawn, blocks_drawn, block_of, slots_drawn, body_next}}
use Rattle.p25_vectors.specs.{declared.bodies.Kind.{Kind}, declared.bodies.Kind.TheVariants.{Link1, Link2, Confirmed, Plain, Response}}
use Rattle.p25_vectors.proofs.DrawsLaws.{state_after-add}

-- Lists of drawn things.

pub voice_drawn-none : (state : ℕ) → voice_drawn 0 state ≡ []
unfolding voice_drawn
voice_drawn-none state = each_below-zero (λ i. voice_frame_of (octets_drawn 18 (state_after (18 * i) state)))

pub voice_drawn-more : (count state : ℕ) → voice_drawn (count + 1) state ≡ voice_drawn count state ++ voice_frame_of (octets_drawn 18 (state_after (18 * count) state)) ∷ []
unfolding voice_drawn
voice_drawn-more count state = each_below-more count (λ i. voice_frame_of (octets_drawn 18 (state_after (18 * i) state)))

pub slots_drawn-none : (state : ℕ) → slots_drawn 0 state ≡ []
unfolding slots_drawn
slots_drawn-none state = each_below-zero (λ j. block_of j (octets_drawn 16 (state_after (16 * j) state)))

pub slots_drawn-more : (count state : ℕ) → slots_drawn (count + 1) state ≡ slots_drawn count state ++ block_of count (octets_drawn 16 (state_after (16 * count) state)) ∷ []
unfolding slots_drawn
slots_drawn-more count state = each_below-more count (λ j. block_of j (octets_drawn 16 (state_after (16 * j) state)))

pub length-slots_drawn : (count state : ℕ) → length (slots_drawn count state) ≡ count
unfolding slots_drawn
length-slots_drawn count state = length-each_below count (λ j. block_of j (octets_drawn 16 (state_after (16 * j) state)))

-- one more of a size after so many
pub state_after-more : (size count state now next : ℕ) → now ≡ state_after (size * count) state → next ≡ state_after size now → next ≡ state_after (size * (count + 1)) state
state_after-more size count state now next is then =
    let e : size * count + size ≡ size * (count + 1) = omega arith in
    then ∙ ap (state_after size) is ∙ state_after-add (size * count) size state ∙ ap (λ n. state_after n state) e

-- Voice.

pub ldu1-drawn : (state first second last : ℕ) (link : LinkControl) (low : List ℕ) (voice : List VoiceFrame)
    → link ≡ link_of (octets_drawn 9 state) → first ≡ state_after 9 state → low ≡ octets_drawn 2 first → second ≡ state_after 2 first
    → voice ≡ voice_drawn 9 second → last ≡ state_after 162 second
    → (Voice (ldu1_unit link low voice) ≡ (body_next Link1 state).0) × (last ≡ (body_next Link1 state).1)
unfolding body_next
ldu1-drawn state first second last link low voice a b c d e f = (cc, cc)

pub ldu2-drawn : (state first second last : ℕ) (sync : EncryptionSync) (low : List ℕ) (voice : List VoiceFrame)
    → sync ≡ sync_of (octets_drawn 12 state) → first ≡ state_after 12 state → low ≡ octets_drawn 2 first → second ≡ state_after 2 first
    → voice ≡ voice_drawn 9 second → last ≡ state_after 162 second
    → (Voice (ldu2_unit sync low voice) ≡ (body_next Link2 state).0) × (last ≡ (body_next Link2 state).1)
unfolding body_next
ldu2-drawn state first second last sync low voice a b c d e f = (cc, cc)

-- Packets.

pub confirmed-drawn : (state first second last blocks llid : ℕ) (head : PacketHead) (slots : List Slot) (packet : ConfirmedParts)
    → blocks ≡ blocks_drawn state → first ≡ state_after 1 state → llid ≡ llid_drawn first → second ≡ state_after 3 first
    → head ≡ confirmed_head llid true blocks 0 0 → slots ≡ slots_drawn blocks second → last ≡ state_after (16 * blocks) second
    → packet ≡ record { head = head; slots = slots }
    → (Packet (confirmed_packet packet) ≡ (body_next Confirmed state).0) × (last ≡ (body_next Confirmed state).1)
unfolding body_next
confirmed-drawn state first second last blocks llid head slots packet a b c d e f g h = (cc, cc)

pub plain-drawn : (state first second last blocks llid : ℕ) (head : PacketHead) (octets : List ℕ) (packet : PlainParts)
    → blocks ≡ blocks_drawn state → first ≡ state_after 1 state → llid ≡ llid_drawn first → second ≡ state_after 3 first
    → head ≡ plain_head llid blocks 0 → octets ≡ octets_drawn (12 * blocks - 4) second → last ≡ state_after (12 * blocks - 4) second
    → packet ≡ record { head = head; octets = octets }
    → (Packet (plain_packet packet) ≡ (body_next Plain state).0) × (last ≡ (body_next Plain state).1)
unfolding body_next
plain-drawn state first second last blocks llid head octets packet a b c d e f g h = (cc, cc)

pub response-drawn : (state llid : ℕ) (head : PacketHead) (octets : List ℕ) (packet : PlainParts)
    → llid ≡ llid_drawn state → head ≡ response_head llid 0 1 0 0 → octets ≡ [] → packet ≡ record { head = head; octets = octets }
    → Packet (plain_packet packet) ≡ (body_next Response state).0
unfolding body_next
response-drawn state llid head octets packet a b c d = cc

-- Nothing fails of them.

slots-good : (count state : ℕ) → AreGood (slots_drawn count state)
unfolding slots_drawn
slots-good count state = record { at = good }
  where
    good : (j : ℕ) → j < length (slots_drawn count state) → get_or (slots_drawn count state) j Bad ≢ Bad
    good j inside bad =
        let is = get_or-each_below count (λ k. block_of k (octets_drawn 16 (state_after (16 * k) state))) j Bad (omega (arith, length-slots_drawn count state)) in
        absurd (cc)

pub body_next-whole : (kind : Kind) (state : ℕ) → IsWholeBody (body_next kind state).0
unfolding body_next IsWholeBody IsWholePacket
body_next-whole Confirmed state = slots-good (blocks_drawn state) (state_after 3 (state_after 1 state))
body_next-whole kind state = tt
